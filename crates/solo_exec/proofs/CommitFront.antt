-- Where a commit stops behind its draw its call is in flight; and where one that is given up stops, it has drawn no number.
use Rattle.std.proofs.Common.{◌≡◌, ⊎_elim, inl, inr, ℕ, zero, suc, ◌+◌, ◌/◌, ◌<◌, ◌≤◌, cond, ltb, List, [], ◌∷◌, ◌++◌, is_some, length, map, take, Option, Some, None, refl, sym, ap, ◌∙◌, subst, arith}
use Rattle.std.proofs.lemmas.Option.{none-some}
use Rattle.solo_crash.specs.Alone.{IsUnsealed, raises}
use Rattle.pm_objects.specs.declared.calls.Operation.{Operation}
use Rattle.pm_objects.specs.declared.calls.Operation.TheVariants.{Commit}
use Rattle.pm_objects.specs.declared.history.Value.{Value}
use Rattle.pm_record.specs.declared.redo.Redo.{Redo}
use Rattle.solo_tx.proofs.CommitCourse.{commits_of}
use Rattle.solo_tx.specs.Generations.{CanPublish, IsCommitting}
use Rattle.solo_tx.specs.Sequences.{commits, decides, decides_all, ends_call, gives_up, retires_any, takes_back}
use Rattle.solo_undo.proofs.Areas.{generation_word}
use Rattle.solo_undo.proofs.Settled.{settle_lawful}
use Rattle.solo_undo.specs.Sequences.{ends_generation, persists, retires, with_generation}
use Rattle.solo_undo.specs.Working.{IsSettled, IsWorking, log_settled}
use Rattle.solo_view.proofs.Sequences.{after_all-append}
use Rattle.solo_view.specs.declared.change.Change.{Change}
use Rattle.solo_view.specs.Area.{Part, area_word, part_of}
use Rattle.solo_view.specs.Area.Part.{GenerationWord}
use Rattle.solo_view.specs.Counts.{max_changes}
use Rattle.solo_view.specs.Log.{Final, Log, Phase, Recorded, log_drained, log_drawn, log_stored, phase_drawn}
use Rattle.solo_view.specs.Log.Phase.{Drawn, Open, Retiring}
use Rattle.solo_view.specs.Steps.{Step}
use Rattle.solo_view.specs.Steps.Step.{Load, Store, Flush, Drain, Draw, Tell}
use Rattle.solo_view.specs.View.{View}
use Rattle.solo_view.specs.Views.{after, after_all}
use Rattle.solo_world.specs.Lanes.{span_of}
use Rattle.solo_world.specs.Records.{generation_of}
use Rattle.solo_world.specs.Sequences.{by_lane, by_view, in_turn, looks, makes_room, nothing, one, settles, stores, with_word}
use Rattle.solo_world.specs.declared.lane.Span.{Span}
use Rattle.solo_transaction.proofs.CanceledAtWork.{settled_log}
use Rattle.solo_exec.specs.Progress.{IsFlyingBy}
use Rattle.solo_exec.proofs.PublishFront.{publishing_flies}
use Rattle.solo_exec.proofs.UndrawnSteps.{Keeps, before_or_behind, settles_undrawn, takes_back_undrawn}

-- where nothing is undrained there is room
no_room_made : (u : View) → u.changes ≡ [] → makes_room u ≡ []
unfolding makes_room
no_room_made u none = ap (λ (changes : List Change). cond (ltb (length changes) max_changes) [] (settles u)) none

-- the steps that end a generation
retires_are : (m : View) → m.changes ≡ []
    → retires m ≡ Load (area_word m.lane) (generation_of m) ∷ Store (area_word m.lane) (generation_of m + 1) ∷ Flush (area_word m.lane / 8) ∷ Drain ∷ []
unfolding retires with_generation by_lane by_view with_word in_turn looks ends_generation stores one persists after_all
retires_are m none =
    let w : ℕ = area_word m.lane in
    ap (λ (room : List Step). Load w (generation_of m) ∷ ((room ++ Store w (generation_of m + 1) ∷ []) ++ Flush (w / 8) ∷ Drain ∷ [])) (no_room_made (after m (Load w (generation_of m))) none)

-- the log once the next generation is stored
stored_log : (m : View) (x : ℕ) → m.log.phase ≡ Drawn → (log_stored m.log.phase (part_of m.lane (area_word m.lane)) x m.log).phase ≡ Retiring
stored_log m x is = ap (λ (part : Part). (log_stored m.log.phase part x m.log).phase) (generation_word m.lane) ∙ ap (λ (p : Phase). (log_stored p GenerationWord x m.log).phase) is

-- before the last of them the call is in flight
ends_fly : (m : View) (j x : ℕ) → m.log.phase ≡ Drawn → j < 4
    → IsUnsealed (after_all m (take j (Load (area_word m.lane) x ∷ Store (area_word m.lane) (x + 1) ∷ Flush (area_word m.lane / 8) ∷ Drain ∷ []))).log.phase
unfolding after_all
ends_fly m zero x is below = subst IsUnsealed (sym is) tt
ends_fly m (suc zero) x is below = subst IsUnsealed (sym is) tt
ends_fly m (suc (suc zero)) x is below = subst IsUnsealed (sym (stored_log m (x + 1) is)) tt
ends_fly m (suc (suc (suc zero))) x is below = subst IsUnsealed (sym (stored_log m (x + 1) is)) tt
ends_fly m (suc (suc (suc (suc j)))) x is below = absurd (omega (arith, below))

retires_fly : (m : View) (j : ℕ) → m.log.phase ≡ Drawn → m.changes ≡ [] → j < length (retires m) → IsUnsealed (after_all m (take j (retires m))).log.phase
retires_fly m j is none =
    subst (λ (steps : List Step). j < length steps → IsUnsealed (after_all m (take j steps)).log.phase) (sym (retires_are m none)) (ends_fly m j (generation_of m) is)

module _ (v : View) (lane : v.lane ≡ 0) (working : IsWorking v) (n : ℕ) where
  abbrev m : View
  m = after_all v (settles v)

  -- behind the draw
  abbrev drawn : View
  drawn = after (after m (Tell Commit None)) (Draw n)

  settled : IsSettled v m
  settled = (settle_lawful v).1

  log_kept : m.log ≡ v.log
  log_kept = ap (λ (u : View). u.log) settled ∙ settled_log v working.is_open v.changes

  drawn_phase : drawn.log.phase ≡ phase_drawn v.log.records v.log.entries
  drawn_phase = ap (λ (l : Log). (log_drawn l.phase l).phase) log_kept ∙ ap (λ (p : Phase). (log_drawn p v.log).phase) working.is_open

  drawn_drained : drawn.changes ≡ []
  drawn_drained = ap (λ (u : View). u.changes) settled

  commits_are : (spans : List Span) → commits spans [] n v ≡ settles v ++ Tell Commit None ∷ Draw n ∷ retires_any spans drawn
  unfolding commits decides_all decides ends_call in_turn one after_all
  commits_are spans = refl

  behind_draw : after_all v (settles v ++ Tell Commit None ∷ Draw n ∷ []) ≡ drawn
  unfolding after_all
  behind_draw = after_all-append v (settles v) (Tell Commit None ∷ Draw n ∷ [])

  any_flies : (records : List Recorded) → v.log.records ≡ records → (j : ℕ) → j < length (retires_any (map span_of records) drawn) → IsUnsealed (after_all drawn (take j (retires_any (map span_of records) drawn))).log.phase
  unfolding retires_any nothing
  any_flies [] are j below = absurd (omega (arith, below))
  any_flies (r ∷ records) are j below = retires_fly drawn j (drawn_phase ∙ ap (λ (rs : List Recorded). phase_drawn rs v.log.entries) are) drawn_drained below

  -- a commit that performs nothing
  unsealed : (spans : List Span) (k number : ℕ) → spans ≡ map span_of v.log.records → k < length (commits spans [] n v) → (after_all v (take k (commits spans [] n v))).number ≡ Some number
      → IsUnsealed (after_all v (take k (commits spans [] n v))).log.phase
  unsealed spans k number are below some =
      let ys : List Step = retires_any spans drawn in
      let all : List Step = settles v ++ Tell Commit None ∷ Draw n ∷ ys in
      let same = commits_are spans in
      let w : View = after_all v (take k all) in
      let w_is : after_all v (take k (commits spans [] n v)) ≡ w = ap (λ (steps : List Step). after_all v (take k steps)) same in
      subst (λ (u : View). IsUnsealed u.log.phase) (sym w_is)
      (⊎_elim
      (λ (keeps : Keeps v w). absurd (none-some number (sym working.undrawn ∙ (sym keeps.number ∙ (sym (ap (λ (u : View). u.number) w_is) ∙ some)))))
      (λ (behind : (j : ℕ) × ((j < length ys) × (w ≡ after_all (after_all v (settles v ++ Tell Commit None ∷ Draw n ∷ [])) (take j ys)))).
      subst (λ (u : View). IsUnsealed u.log.phase) (sym (behind.1.1 ∙ ap (λ (u : View). after_all u (take behind.0 ys)) behind_draw))
      (subst (λ (s : List Span). behind.0 < length (retires_any s drawn) → IsUnsealed (after_all drawn (take behind.0 (retires_any s drawn))).log.phase) (sym are) (any_flies v.log.records refl behind.0) behind.1.0))
      (before_or_behind v (settles v) (Tell Commit None) (Draw n) ys k (settles_undrawn v lane) tt (subst (λ (steps : List Step). k < length steps) same below)))

-- without a seal, a call that drew its number stored no generation yet, or it did and ends it
drawn_unraised : (records : List Recorded) (entries : List Final) (raised : ℕ) → raised ≡ 0 → IsUnsealed (phase_drawn records entries) → IsFlyingBy raised (phase_drawn records entries)
drawn_unraised [] [] raised none unsealed = absurd unsealed
drawn_unraised [] (e ∷ entries) raised none unsealed = none
drawn_unraised (r ∷ records) entries raised none unsealed = none

unsealed_flies : (v w : View) (raised : ℕ) → IsUnsealed w.log.phase → IsCommitting v [] raised w → IsFlyingBy raised w.log.phase
unsealed_flies v w raised unsealed (inl (none, inl is)) = absurd (subst IsUnsealed is unsealed)
unsealed_flies v w raised unsealed (inl (none, inr is)) = subst (IsFlyingBy raised) (sym is) (drawn_unraised v.log.records v.log.entries raised none (subst IsUnsealed is unsealed))
unsealed_flies v w raised unsealed (inr (one, some, inl is)) = subst (IsFlyingBy raised) (sym is) one
unsealed_flies v w raised unsealed (inr (one, some, inr is)) = absurd (subst IsUnsealed is unsealed)

-- whatever it performs
pub commit_flies : (v : View) (spans : List Span) (entries : List Redo) (n k number : ℕ) → v.lane ≡ 0 → IsWorking v → spans ≡ map span_of v.log.records → (1 ≤ length entries → CanPublish v entries)
    → k < length (commits spans entries n v) → (after_all v (take k (commits spans entries n v))).number ≡ Some number
    → IsFlyingBy (raises (take k (commits spans entries n v))) (after_all v (take k (commits spans entries n v))).log.phase
commit_flies v spans [] n k number lane working are can below drawn =
    let made : List Step = take k (commits spans [] n v) in
    unsealed_flies v (after_all v made) (raises made) (unsealed v lane working n spans k number are below drawn) (commits_of v spans [] n k lane working are can)
commit_flies v spans (e ∷ entries) n k number lane working are can below drawn =
    let made : List Step = take k (commits spans (e ∷ entries) n v) in
    publishing_flies (length (e ∷ entries)) (raises made) number (after_all v made) drawn (commits_of v spans (e ∷ entries) n k lane working are can)

-- a call that is given up draws its number last
module _ (v : View) (lane : v.lane ≡ 0) (spans : List Span) (operation : Operation) (reply : Option Value) (n k : ℕ) where
  gives_up_are : gives_up spans operation reply n v ≡ takes_back spans v ++ Tell operation reply ∷ Draw n ∷ []
  unfolding gives_up ends_call in_turn one after_all
  gives_up_are = refl

  pub give_up_keeps : k < length (gives_up spans operation reply n v) → Keeps v (after_all v (take k (gives_up spans operation reply n v)))
  give_up_keeps below =
      let all : List Step = takes_back spans v ++ Tell operation reply ∷ Draw n ∷ [] in
      subst (λ (steps : List Step). Keeps v (after_all v (take k steps))) (sym gives_up_are)
      (⊎_elim
      (λ (keeps : Keeps v (after_all v (take k all))). keeps)
      (λ (behind : (j : ℕ) × ((j < 0) × (after_all v (take k all) ≡ after_all (after_all v all) (take j [])))). absurd (let low = behind.1.0 in omega (arith, low)))
      (before_or_behind v (takes_back spans v) (Tell operation reply) (Draw n) [] k (takes_back_undrawn spans v lane) tt (subst (λ (steps : List Step). k < length steps) gives_up_are below)))
