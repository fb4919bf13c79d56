-- The lane's generation may be ended, and what that leaves.
use Rattle.std.proofs.Common.{◌≡◌, ℕ, ◌+◌, ◌/◌, ◌<◌, ◌≤◌, ⊎_elim, Bool, true, false, cond, eqb, List, [], ◌∷◌, ◌++◌, length, slice_index, is_some, refl, sym, ap, ◌∙◌, subst, arith, get_or-set_same, get_or-set_other, eq-eqb, IsTrue}
use Rattle.std.proofs.lemmas.Bool.{or_left}
use Rattle.std.specs.List.{list_any}
use Rattle.solo_view.specs.declared.change.Change.{Change}
use Rattle.solo_view.specs.Area.{area_word, is_in_area}
use Rattle.solo_view.specs.Area.Part.{GenerationWord}
use Rattle.solo_view.specs.Changes.{drained, flushed, store_change}
use Rattle.solo_view.specs.Counts.{FlushesSome, DropsSome}
use Rattle.solo_view.specs.Held.{is_known}
use Rattle.solo_view.specs.Log.{Phase, log_stored, log_drained, no_log}
use Rattle.solo_view.specs.Log.Phase.{Idle, Open, Drawn, Retiring}
use Rattle.solo_view.specs.Steps.Step.{Store, Flush, Drain}
use Rattle.solo_view.specs.View.{View}
use Rattle.solo_view.specs.Views.{after, after_all, log_after_drain}
use Rattle.solo_world.specs.Lawful.{MayStore, StoreFits}
use Rattle.solo_world.specs.Records.{AreRestored}
use Rattle.solo_world.specs.Sequences.{by_lane, by_view, in_turn, looks, one, stores, with_word, Ready}
use Rattle.solo_world.proofs.Going.{Goes, goes_then}
use Rattle.solo_undo.specs.Sequences.{ends_generation, persists, retires, with_generation}
use Rattle.solo_undo.specs.Working.{HasArea, HasMadeRoom, IsRetired, IsSettled, IsWorking, TellsNoBlock}
use Rattle.solo_undo.proofs.Dropping.{flush_drops}
use Rattle.solo_undo.proofs.Areas.{area_tells_nothing, generation_in_area, generation_word}
use Rattle.solo_undo.proofs.Staying.{looked, looks_so, same_call-then, same_changed, same_coursed, same_looked}
use Rattle.solo_undo.proofs.Storing.{Is, goes_from, goes_stores}

-- a word that the view knows may be looked at, where no block is found by it
pub may_look : (v : View) (w : ℕ) (Q : View → Type 0) → w < length v.words → is_known v w ≡ true → TellsNoBlock v w → Q (looked v w) → Ready v (looks w v) × Q (after_all v (looks w v))
unfolding looks Ready after_all
may_look v w Q low known quiet q = ((low, (known, refl), tt), subst Q (sym (looks_so v w quiet)) q)

module _ (v : View) (area : HasArea v) where
  -- a word of the lane's area may be looked at
  pub area_look : (w : ℕ) → is_in_area v.lane w ≡ true → w < length v.words → Goes (Is v) (looks w) (Is (looked v w))
  unfolding looks Ready after_all
  area_look w inside low =
      goes_from v (Is (looked v w)) (looks w)
      ((low, (or_left (is_in_area v.lane w) (list_any (λ other. eqb other w) v.known) inside, refl), tt), looks_so v w (λ l there. area_tells_nothing v.lanes v.lane w l.line v.words area.lane inside))

flushed_once : (changes : List Change) (c : Change) → changes ≡ [] → drained (flushed (c.word / 8) (changes ++ c ∷ [])) ≡ []
flushed_once changes c none = ap (λ cs. drained (flushed (c.word / 8) (cs ++ c ∷ []))) none ∙ at (eqb (c.word / 8) (c.word / 8)) (eq-eqb (c.word / 8) (c.word / 8) refl) where
  at : (b : Bool) → b ≡ true → drained (cond b (record c { flushed = true }) c ∷ []) ≡ []
  at b e = ap (λ t. drained (cond t (record c { flushed = true }) c ∷ [])) e

-- the phase behind the drain of the next generation: the call is open still, or it is over where it drew its number
abbrev ended : Bool → Phase
ended true = Idle
ended false = Open [] []

module _ (v : View) (area : HasArea v) (none : v.changes ≡ []) where
  abbrev g : ℕ
  g = area_word v.lane

  abbrev x : ℕ
  x = slice_index v.words g + 1

  abbrev v₁ : View
  v₁ = looked v g

  abbrev c : Change
  c = store_change g (slice_index v.words g) x

  abbrev v₂ : View
  v₂ = after v₁ (Store g x)

  abbrev v₃ : View
  v₃ = after v₂ (Flush (g / 8))

  abbrev v₄ : View
  v₄ = after v₃ Drain

  inside : g < length v.words
  inside = let most = area.inside in omega (arith, most)

  gone : v₄.changes ≡ []
  gone = flushed_once v.changes c none

  some_unflushed : FlushesSome (g / 8) v₂.changes
  some_unflushed = subst (λ cs. FlushesSome (g / 8) (cs ++ c ∷ [])) (sym none) (0, c, omega arith, refl, (eq-eqb (g / 8) (g / 8) refl, refl))

  some_dropped : DropsSome v₃.changes
  some_dropped = flush_drops (g / 8) v₂.changes some_unflushed

  module _ (fits : StoreFits v₁ g x v.log.phase GenerationWord) where
    may : (m : View) → HasMadeRoom v₁ m → MayStore m g x × Is v₂ (after m (Store g x))
    may m made =
        let same : m ≡ v₁ = ⊎_elim (λ (e : m ≡ v₁). e) (λ (full : (512 ≤ length v₁.changes) × IsSettled v₁ m). absurd (let n = ap length none in let full₀ = full.0 in omega (arith, n, full₀))) made.1 in
        subst (λ u. MayStore u g x × Is v₂ (after u (Store g x))) (sym same)
        (record { inside = inside; room = (let n = ap length none in omega (arith, n)); fits = subst (StoreFits v₁ g x v.log.phase) (sym (generation_word v.lane)) fits }, refl)

    ends : Goes (Is v) (in_turn (looks g) (ends_generation v.lane (slice_index v.words g))) (Is v₄)
    unfolding ends_generation persists one Ready after_all
    ends =
        goes_then (Is v) (Is v₁) (Is v₄) (looks g) (ends_generation v.lane (slice_index v.words g))
        (area_look v area g (generation_in_area v.lane) inside)
        (goes_then (Is v₁) (Is v₂) (Is v₄) (stores g x) (persists (g / 8))
        (goes_stores (Is v₁) (Is v₂) g x (λ u m is made. may m (subst (λ w. HasMadeRoom w m) is made)))
        (goes_then (Is v₂) (Is v₃) (Is v₄) (one (Flush (g / 8))) (one Drain)
        (goes_from v₂ (Is v₃) (one (Flush (g / 8))) ((some_unflushed, tt, tt), refl))
        (goes_from v₃ (Is v₄) (one Drain) ((some_dropped, tt, tt), refl))))

    module _ (ending : log_stored v.log.phase GenerationWord x v.log ≡ record v.log { phase = Retiring }) (number : Bool) (has : is_some v.number ≡ number) where
      log_ended : v₃.log ≡ record v.log { phase = Retiring }
      log_ended = ap (λ part. log_stored v.log.phase part x v.log) (generation_word v.lane) ∙ ending

      retired : IsRetired (ended number) v v₄
      retired = record {
        call = same_call-then v v₁ v₄ (same_looked v g) (same_call-then v₁ v₂ v₄ (same_changed v₁ g x _ _) (same_coursed v₂ _ _ _));
        log = ap (λ left. log_after_drain left v₃) gone ∙ ap (λ log. log_drained log.phase (is_some v.number) log) log_ended ∙ at (is_some v.number) number has;
        drained = gone;
        next = get_or-set_same v.words g x 0 inside;
        others = λ u other. get_or-set_other v.words g u x 0 other;
      } where
        at : (a b : Bool) → a ≡ b → log_drained Retiring a (record v.log { phase = Retiring }) ≡ no_log (ended b)
        at true true e = refl
        at true false e = absurd cc
        at false true e = absurd cc
        at false false e = refl

      goes_retired : Ready v (retires v) × IsRetired (ended number) v (after_all v (retires v))
      unfolding retires with_generation by_lane with_word by_view
      goes_retired = let r = ends v refl in (r.0, subst (IsRetired (ended number) v) (sym r.1) retired)

-- a call that is given up, once its words are put back
pub retire_given_up : (v : View) → IsWorking v → v.changes ≡ [] → v.log.entries ≡ [] → AreRestored v → Ready v (retires v) × IsRetired (Open [] []) v (after_all v (retires v))
retire_given_up v working none unentered restored =
    let open_ = working.is_open in
    goes_retired v working.area none
    (subst (λ p. StoreFits (v₁ v working.area none) (g v working.area none) (x v working.area none) p GenerationWord) (sym open_)
    (record { ends = record { next = refl; below = working.area.below; drained = none; unentered = unentered }; restored = restored; whole = refl; no_pair = refl }))
    (ap (λ p. log_stored p GenerationWord (x v working.area none) v.log) open_) false (ap is_some working.undrawn)

-- a call that drew its number
pub retire_drawn : (v : View) → HasArea v → v.log.phase ≡ Drawn → IsTrue (is_some v.number) → v.changes ≡ [] → v.log.entries ≡ [] → Ready v (retires v) × IsRetired Idle v (after_all v (retires v))
retire_drawn v area drawn number none unentered =
    goes_retired v area none
    (subst (λ p. StoreFits (v₁ v area none) (g v area none) (x v area none) p GenerationWord) (sym drawn) (record { next = refl; below = area.below; drained = none; unentered = unentered }))
    (ap (λ p. log_stored p GenerationWord (x v area none) v.log) drawn) true number
