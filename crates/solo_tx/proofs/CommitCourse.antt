-- A commit ends the generation once at most, and once the number is drawn: by retiring, or as what it publishes is applied.
use Rattle.std.proofs.Common.{◌≡◌, inl, inr, ⊎_elim, ℕ, ◌+◌, ◌≤◌, length, true, false, List, [], ◌∷◌, is_some, map, take, None, refl, sym, ap, ◌∙◌, subst, arith}
use Rattle.solo_crash.proofs.Raises.{raise_by}
use Rattle.solo_crash.specs.Alone.{raises}
use Rattle.pm_objects.specs.declared.calls.Operation.TheVariants.{Commit}
use Rattle.pm_record.specs.declared.redo.Redo.{Redo}
use Rattle.solo_undo.proofs.Settled.{settle_lawful}
use Rattle.solo_undo.specs.Sequences.{retires}
use Rattle.solo_undo.specs.Working.{IsWorking}
use Rattle.solo_view.specs.Log.{Log, Phase, Recorded, log_drawn, phase_drawn}
use Rattle.solo_view.specs.Log.Phase.{Drawn, Retiring}
use Rattle.solo_view.specs.Steps.Step.{Draw, Tell}
use Rattle.solo_view.specs.View.{View}
use Rattle.solo_view.specs.Views.{after, after_all}
use Rattle.solo_world.specs.Lanes.{span_of}
use Rattle.solo_world.specs.Sequences.{in_turn, nothing, one, settles}
use Rattle.solo_world.specs.declared.lane.Span.{Span}
use Rattle.solo_view.specs.Steps.{Step}
use Rattle.solo_tx.proofs.Decided.{may_publish}
use Rattle.solo_tx.proofs.Courses.{Course, Throughout, course_in_turn, course_nothing, course_of_kind, course_one, course_weaker, throughout_at, throughout_both}
use Rattle.solo_tx.proofs.PublishCourse.{publishes_throughout}
use Rattle.solo_tx.proofs.Retirement.{HasRetired, IsBeside, IsSteady, Retires, Stands, beside_keeps, log_ended, quiet_beside, retires_course, steady_drawn, steady_open}
use Rattle.solo_tx.proofs.StepKinds.{only_one, only_settles}
use Rattle.solo_tx.specs.Generations.{CanPublish, IsCommitting, IsLogging, IsPublishing}
use Rattle.solo_tx.specs.Sequences.{commits, decides, decides_all, ends_call, publishes, retires_any}

module _ (v : View) (lane : v.lane ≡ 0) (working : IsWorking v) where
  abbrev I : ℕ → View → Type 0
  I = IsCommitting v []

  -- anything
  abbrev Any : ℕ → View → Type 0
  Any r w = Unit {0}

  abbrev Before : ℕ → View → Type 0
  Before = Stands 0 v.log false

  abbrev log_then : Log
  log_then = record v.log { phase = phase_drawn v.log.records v.log.entries }

  abbrev Then : ℕ → View → Type 0
  Then = Stands 0 log_then true

  before : (r : ℕ) (w : View) → Before r w → I r w
  before r w p = inl (p.0, inl (ap (λ (l : Log). l.phase) p.2 ∙ working.is_open))

  then : (r : ℕ) (w : View) → Then r w → I r w
  then r w p = inl (p.0, inr (ap (λ (l : Log). l.phase) p.2))

  between : (r : ℕ) (w : View) → Retires true r w → I r w
  between r w p = inr (p.0, p.3, inl p.2)

  behind : (r : ℕ) (w : View) → HasRetired true r w → I r w
  behind r w p = inr (p.0, p.2, ⊎_elim (λ (still : w.log.phase ≡ Retiring). inl still) (λ (over : w.log ≡ log_ended true). inr (ap (λ (l : Log). l.phase) over)) p.1)

  open_steady : IsSteady v.log.phase
  open_steady = subst IsSteady (sym working.is_open) steady_open

  drawn : (n r : ℕ) (w : View) → Before r w → Then (r + raise_by (Draw n)) (after w (Draw n))
  drawn n r w p =
      let none = p.0 in (
        (let e : r + 0 ≡ 0 = omega (arith, none) in e),
        p.1,
        ap (λ (l : Log). log_drawn l.phase l) p.2 ∙ ap (λ (phase : Phase). log_drawn phase v.log) working.is_open,
        refl,
      )

  tail : (records : List Recorded) → v.log.records ≡ records → Course I Then (retires_any (map span_of records)) Any
  unfolding retires_any
  tail [] are = course_weaker I Then Then Any nothing (λ r w p. tt) (course_nothing I Then then)
  tail (r ∷ records) are =
      let phase : log_then.phase ≡ Drawn = ap (λ rs. phase_drawn rs v.log.entries) are in
      course_weaker I Then (HasRetired true) Any retires (λ r w p. tt) (retires_course I log_then true (subst IsSteady (sym phase) steady_drawn) then between behind)

  abbrev spans : List Span
  spans = map span_of v.log.records

  decides_course : (n : ℕ) → Course I Before (decides spans n) Any
  unfolding decides ends_call
  decides_course n =
      course_in_turn I Before Then Any (in_turn (one (Tell Commit None)) (one (Draw n))) (retires_any spans)
      (course_in_turn I Before Before Then (one (Tell Commit None)) (one (Draw n))
      (course_of_kind I IsBeside Before before (λ r w p. p.1) (beside_keeps 0 v.log false open_steady) (one (Tell Commit None)) (only_one IsBeside (Tell Commit None) tt))
      (course_one I Before Then (Draw n) before then (drawn n)))
      (tail v.log.records refl)

  commits_course : (n : ℕ) → Course I Before (commits spans [] n) Any
  unfolding commits decides_all
  commits_course n =
      course_in_turn I Before Before Any settles (decides spans n)
      (course_of_kind I IsBeside Before before (λ r w p. p.1) (beside_keeps 0 v.log false open_steady) settles (only_settles IsBeside quiet_beside))
      (decides_course n)

  commits_so : (n k : ℕ) → I (raises (take k (commits spans [] n v))) (after_all v (take k (commits spans [] n v)))
  commits_so n k =
      subst (λ r. I r (after_all v (take k (commits spans [] n v)))) (let e : 0 + raises (take k (commits spans [] n v)) ≡ raises (take k (commits spans [] n v)) = omega arith in e)
      (throughout_at I 0 v (commits spans [] n v) k (commits_course n 0 v (refl, lane, refl, ap is_some working.undrawn)).0)

  -- where entries are listed, all is made persistent, and then they are published
  module _ (recorded : List Span) (first : Redo) (others : List Redo) (can : CanPublish v (first ∷ others)) (n : ℕ) where
    abbrev entries : List Redo
    entries = first ∷ others

    abbrev Holds : ℕ → View → Type 0
    Holds = IsPublishing (length entries)

    settling : (r : ℕ) (w : View) → Before r w → Holds r w
    settling r w p = inl (p.0, inl (p.3, subst IsLogging (sym (ap (λ (l : Log). l.phase) p.2 ∙ working.is_open)) refl))

    listed_throughout : Throughout Holds 0 v (commits recorded entries n v)
    unfolding commits decides_all in_turn
    listed_throughout =
        let m : View = after_all v (settles v) in
        let c = course_of_kind Holds IsBeside Before settling (λ r w p. p.1) (beside_keeps 0 v.log false open_steady) settles (only_settles IsBeside quiet_beside) 0 v (refl, lane, refl, ap is_some working.undrawn) in
        let may = may_publish v m working can.unentered can.may_come (settle_lawful v).1 entries (omega arith) can.few can.each in
        throughout_both Holds 0 v (settles v) (publishes entries Commit n m) c.0 (publishes_throughout m entries may c.1.1 Commit n (0 + raises (settles v)) c.1.0)

    listed_so : (k : ℕ) → Holds (raises (take k (commits recorded entries n v))) (after_all v (take k (commits recorded entries n v)))
    listed_so k =
        let steps : List Step = commits recorded entries n v in
        subst (λ r. Holds r (after_all v (take k steps))) (let e : 0 + raises (take k steps) ≡ raises (take k steps) = omega arith in e)
        (throughout_at Holds 0 v steps k listed_throughout)

-- the same of the records as the lane has them
pub commits_of : (v : View) (recorded : List Span) (entries : List Redo) (n k : ℕ) → v.lane ≡ 0 → IsWorking v → recorded ≡ map span_of v.log.records → (1 ≤ length entries → CanPublish v entries)
    → IsCommitting v entries (raises (take k (commits recorded entries n v))) (after_all v (take k (commits recorded entries n v)))
commits_of v recorded [] n k lane working are can = subst (λ (s : List Span). IsCommitting v [] (raises (take k (commits s [] n v))) (after_all v (take k (commits s [] n v)))) (sym are) (commits_so v lane working n k)
commits_of v recorded (e ∷ entries) n k lane working are can = listed_so v lane working recorded e entries (can (omega arith)) n k
