-- A call that is given up ends the generation once at most, before a number is drawn.
use Rattle.std.proofs.Common.{◌≡◌, ◌⊎◌, inl, inr, ⊎_elim, ℕ, ◌+◌, false, List, [], ◌∷◌, is_some, map, take, Option, None, Some, refl, sym, ap, ◌∙◌, subst, arith}
use Rattle.std.proofs.lemmas.Bool.{false≢true}
use Rattle.solo_crash.specs.Alone.{raises}
use Rattle.pm_objects.specs.declared.calls.Operation.{Operation}
use Rattle.pm_objects.specs.declared.history.Value.{Value}
use Rattle.solo_undo.specs.Sequences.{restores, retires}
use Rattle.solo_undo.specs.Working.{IsWorking}
use Rattle.solo_view.specs.Log.{Log, Recorded, log_drawn, no_log}
use Rattle.solo_view.specs.Log.Phase.{Idle, Open, Retiring}
use Rattle.solo_view.specs.Steps.{Step}
use Rattle.solo_view.specs.Steps.Step.{Draw, Tell}
use Rattle.solo_view.specs.View.{View}
use Rattle.solo_view.specs.Views.{after_all}
use Rattle.solo_world.specs.Lanes.{span_of}
use Rattle.solo_world.specs.Sequences.{in_turn, one, settles}
use Rattle.solo_world.specs.declared.lane.Span.{Span}
use Rattle.solo_tx.proofs.Courses.{Course, Throughout, course_in_turn, course_of_kind, course_one, throughout_at, throughout_both}
use Rattle.solo_tx.proofs.Retirement.{HasRetired, IsBeside, IsSteady, Retires, Stands, beside_keeps, log_ended, quiet_beside, records_beside, retires_course, steady_open}
use Rattle.solo_tx.proofs.StepKinds.{only_restores, only_settles}
use Rattle.solo_tx.proofs.TakenBack.{take_back_lawful}
use Rattle.solo_tx.specs.Generations.{IsGivingUp}
use Rattle.solo_tx.specs.Sequences.{ends_call, gives_up, takes_back, undoes}

none_of : (number : Option ℕ) → is_some number ≡ false → number ≡ None
none_of None is = refl
none_of (Some n) is = absurd (false≢true (sym is))

module _ (v : View) (lane : v.lane ≡ 0) (working : IsWorking v) (no_entries : v.log.entries ≡ []) where
  abbrev I : ℕ → View → Type 0
  I = IsGivingUp v

  abbrev Before : ℕ → View → Type 0
  Before = Stands 0 v.log false

  -- the generation was ended, or there was nothing to end
  abbrev IsDone : ℕ → Type 0
  IsDone r = ((r ≡ 0) × (v.log.records ≡ [])) ⊎ (r ≡ 1)

  -- the call is open, with nothing in its log and no number
  abbrev Back : ℕ → View → Type 0
  Back r w = IsDone r × (w.log ≡ no_log (Open [] [])) × (w.number ≡ None)

  -- the call is over
  abbrev Over : ℕ → View → Type 0
  Over r w = IsDone r × (w.log.phase ≡ Idle)

  before : (r : ℕ) (w : View) → Before r w → I r w
  before r w p = inl (p.0, inl (ap (λ (l : Log). l.phase) p.2 ∙ working.is_open, ap (λ (l : Log). l.records) p.2))

  between : (r : ℕ) (w : View) → Retires false r w → I r w
  between r w p = inr (p.0, inl (p.2, none_of w.number p.3))

  behind : (r : ℕ) (w : View) → HasRetired false r w → I r w
  behind r w p = inr (
    p.0,
    ⊎_elim (λ (still : w.log.phase ≡ Retiring). inl (still, none_of w.number p.2))
        (λ (over : w.log ≡ log_ended false). inr (inl (over, none_of w.number p.2))) p.1,
  )

  back : (r : ℕ) (w : View) → Back r w → I r w
  back r w p = ⊎_elim
      (λ (none : (r ≡ 0) × (v.log.records ≡ [])). inl (none.0, inl (ap (λ (l : Log). l.phase) p.1, ap (λ (l : Log). l.records) p.1 ∙ sym none.1)))
      (λ (once : r ≡ 1). inr (once, inr (inl (p.1, p.2))))
      p.0

  over : (r : ℕ) (w : View) → Over r w → I r w
  over r w p = ⊎_elim
      (λ (none : (r ≡ 0) × (v.log.records ≡ [])). inl (none.0, inr (p.1, none.1)))
      (λ (once : r ≡ 1). inr (once, inr (inr p.1)))
      p.0

  open_steady : IsSteady v.log.phase
  open_steady = subst IsSteady (sym working.is_open) steady_open

  abbrev spans : List Span
  spans = map span_of v.log.records

  settles_course : Course I Before settles Before
  settles_course = course_of_kind I IsBeside Before before (λ r w p. p.1) (beside_keeps 0 v.log false open_steady) settles (only_settles IsBeside quiet_beside)

  undoes_course : Course I Before (undoes spans) (HasRetired false)
  unfolding undoes
  undoes_course =
      course_in_turn I Before Before (HasRetired false) (restores spans) retires
      (course_of_kind I IsBeside Before before (λ r w p. p.1) (beside_keeps 0 v.log false open_steady) (restores spans) (only_restores IsBeside quiet_beside spans (records_beside v lane working)))
      (retires_course I v.log false open_steady before between behind)

  begins : Before 0 v
  begins = (refl, lane, refl, ap is_some working.undrawn)

  -- taking back, and how often that ended the generation
  taking : (records : List Recorded) → v.log.records ≡ records → Throughout I 0 v (takes_back (map span_of records) v) × IsDone (raises (takes_back (map span_of records) v))
  unfolding takes_back
  taking [] are = let c = settles_course 0 v begins in (c.0, inl (let none = c.1.0 in let e : raises (settles v) ≡ 0 = omega (arith, none) in e, are))
  taking (r ∷ records) are =
      subst (λ rs. Throughout I 0 v (undoes (map span_of rs) v) × IsDone (raises (undoes (map span_of rs) v))) are
      (let c = undoes_course 0 v begins in (c.0, inr (let once = c.1.0 in let e : raises (undoes spans v) ≡ 1 = omega (arith, once) in e)))

  done_still : (r : ℕ) (by : ℕ) → by ≡ 0 → IsDone r → IsDone (r + by)
  done_still r by none done = subst IsDone (let e : r ≡ r + by = omega (arith, none) in e) done

  ending : (operation : Operation) (reply : Option Value) (n : ℕ) → Course I Back (ends_call operation reply n) Over
  unfolding ends_call
  ending operation reply n =
      course_in_turn I Back Back Over (one (Tell operation reply)) (one (Draw n))
      (course_one I Back Back (Tell operation reply) back back (λ r w p. (done_still r 0 refl p.0, p.1, p.2)))
      (course_one I Back Over (Draw n) back over (λ r w p. (done_still r 0 refl p.0, ap (λ (l : Log). (log_drawn l.phase l).phase) p.1)))

  gives_up_throughout : (operation : Operation) (reply : Option Value) (n : ℕ) → Throughout I 0 v (gives_up spans operation reply n v)
  unfolding gives_up in_turn
  gives_up_throughout operation reply n =
      let first : List Step = takes_back spans v in
      let m : View = after_all v first in
      let t = taking v.log.records refl in
      let taken = (take_back_lawful v working no_entries).1 in
      throughout_both I 0 v first (ends_call operation reply n m) t.0
      (ending operation reply n (0 + raises first) m
      (subst IsDone (let e : raises first ≡ 0 + raises first = omega arith in e) t.1, taken.log, taken.call.number ∙ working.undrawn)).0

  pub gives_up_so : (operation : Operation) (reply : Option Value) (n k : ℕ) → I (raises (take k (gives_up spans operation reply n v))) (after_all v (take k (gives_up spans operation reply n v)))
  gives_up_so operation reply n k =
      let steps : List Step = gives_up spans operation reply n v in
      subst (λ r. I r (after_all v (take k steps))) (let e : 0 + raises (take k steps) ≡ raises (take k steps) = omega arith in e)
      (throughout_at I 0 v steps k (gives_up_throughout operation reply n))

-- the same of the records as the lane has them
pub gives_up_of : (v : View) (spans : List Span) (operation : Operation) (reply : Option Value) (n k : ℕ) → v.lane ≡ 0 → IsWorking v → v.log.entries ≡ [] → spans ≡ map span_of v.log.records
    → IsGivingUp v (raises (take k (gives_up spans operation reply n v))) (after_all v (take k (gives_up spans operation reply n v)))
gives_up_of v spans operation reply n k lane working none are =
    subst (λ (s : List Span). IsGivingUp v (raises (take k (gives_up s operation reply n v))) (after_all v (take k (gives_up s operation reply n v)))) (sym are) (gives_up_so v lane working none operation reply n k)
