-- What the crate's tests do: lane 0 over the words of a pool of one lane and one zone without
-- objects takes a line's lock and gives it back, looks at its generation and opens a call; and in
-- an open call it stores its next generation, flushes the line and drains it.
use Rattle.std.proofs.Common.{◌≡◌, ℕ, ◌/◌, ◌<◌, Bool, true}
use Rattle.std.proofs.Common.{Some, refl, ap, subst}
use Rattle.std.proofs.Common.{false, None, is_none, Result, Ok, Err, sym}
use Rattle.std.proofs.Common.{arith}
use Rattle.std.proofs.lemmas.Bool.{both_ways}
use Rattle.pm_layout.specs.declared.shape.Shape.{Shape}
use Rattle.pm_layout.specs.Areas.{word_of_generation}
use Rattle.pm_layout.specs.Chunks.{words_of}
use Rattle.pm_memory.specs.Runs.{Made, MadeOrStopped}
use Rattle.pm_memory.specs.declared.lane_mem.Stopped.{Stopped}
use Rattle.pm_memory.specs.Solo.{Solo, CanStep}
use Rattle.pm_view.specs.Counts.{IsAtStop}
use Rattle.pm_view.specs.Steps.{Step}
use Rattle.pm_view.specs.Steps.Step.{Load, Store, Flush, Drain, TakeWrite, Give, NumberSeen}
use Rattle.pm_view.specs.View.{View}
use Rattle.pm_view.specs.Views.{after}
use Rattle.pm_world.specs.Lawful.{Allowed}
use Rattle.pm_world.specs.InWorld.{InWorld}
use Rattle.pm_world.specs.Solo.{meets_standing, grants_allowed}
use Rattle.pm_world.specs.SoloLanes.{StandsAs}
use Rattle.pm_world.specs.TestLanes.{first_lane, first_view}
use Rattle.pm_world.proofs.FirstLooks.{looked, looks_first}

-- ---- ITS STEPS: a lock is taken and given back, the generation is looked at, and a call is opened
module _ (sh : Shape) where
  abbrev pub took_lock : View
  took_lock = after (first_view sh) (TakeWrite 100 true)

  abbrev pub gave_lock : View
  gave_lock = after (after (first_view sh) (TakeWrite 100 true)) (Give 100)

  in_pool : 100 < words_of sh / 8
  in_pool = let a = sh.lanes_from in let b = sh.zones_from in omega (arith, a, b)

  may_take : (won : Bool) → Allowed (first_view sh) (TakeWrite 100 won)
  may_take won = record { inside = in_pool; free = refl; early = refl }

  may_give : Allowed took_lock (Give 100)
  may_give = record { inside = in_pool; held = refl; fits = tt }

  may_see : (w x : ℕ) → w ≡ word_of_generation sh 0 → Allowed gave_lock (Load w x)
  may_see w x at = let a = sh.lanes_from in let b = sh.zones_from in omega (arith, at, a, b)

  module _ (m : Solo) where
    pub can_look : (w x : ℕ) → w ≡ word_of_generation sh 0 → StandsAs m (first_view sh) → CanStep m (Load w x)
    can_look w x at st = meets_standing m (first_view sh) (Load w x) st (may_see w x at)

    pub can_take : (won : Bool) → StandsAs m (first_view sh) → CanStep m (TakeWrite 100 won)
    can_take won st = meets_standing m (first_view sh) (TakeWrite 100 won) st (may_take won)

    pub can_give : StandsAs m took_lock → CanStep m (Give 100)
    can_give st = meets_standing m took_lock (Give 100) st may_give

    pub can_see : (w x : ℕ) → w ≡ word_of_generation sh 0 → StandsAs m gave_lock → CanStep m (Load w x)
    can_see w x at st = meets_standing m gave_lock (Load w x) st (may_see w x at)

    module _ (new : Solo) where
      pub took : (won : Bool) → StandsAs m (first_view sh)
          → Made Allowed (StandsAs m) (StandsAs new) (TakeWrite 100 won) → StandsAs new took_lock
      took won st made = let t = made (first_view sh) st (may_take won) in
          subst (λ b. StandsAs new (after (first_view sh) (TakeWrite 100 b))) (t.1 refl) t.0

      pub gave : StandsAs m took_lock → Made Allowed (StandsAs m) (StandsAs new) (Give 100) → StandsAs new gave_lock
      gave st made = (made took_lock st may_give).0

      pub saw : (w x : ℕ) → w ≡ word_of_generation sh 0 → StandsAs m gave_lock
          → Made Allowed (StandsAs m) (StandsAs new) (Load w x) → StandsAs new (after gave_lock (Load w x))
      saw w x at st made = (made gave_lock st (may_see w x at)).0

      pub opened : (w x n : ℕ) → StandsAs m (after gave_lock (Load w x))
          → Made Allowed (StandsAs m) (StandsAs new) (NumberSeen n)
          → StandsAs new (after (after gave_lock (Load w x)) (NumberSeen n))
      opened w x n st made = (made (after gave_lock (Load w x)) st refl).0

-- ---- A COUNTED CALL is made where the lane is not at its stop number
pub went_on : {T : Type 0} (m new : Solo) (v : View) (s : Step) (r : Result T Stopped)
    → MadeOrStopped Allowed (StandsAs m) (StandsAs new) (λ _. s) r
    → StandsAs m v → Allowed v s → (IsAtStop v → ⊥) → StandsAs new (after v s)
went_on m new v s (Ok x) made st may on = (made v st may).0
went_on m new v s (Err e) made st may on = absurd (on (made v st).1)

-- the lane of an open call stores its next generation, flushes the line and drains it
module _ (sh : Shape) (n : ℕ) where
  abbrev pub began : View
  began = after (looked (first_lane sh) 1) (NumberSeen n)

  abbrev pub stored : View
  stored = after began (Store 512 2)

  abbrev pub flushed : View
  flushed = after stored (Flush 64)

  abbrev pub drained : View
  drained = after flushed Drain

  in_words : 512 < words_of sh
  in_words = let a = sh.lanes_from in omega (arith, a)

  no_record : (x : ℕ) → None ≡ Some x → ⊥
  no_record x e = both_ways false refl (ap is_none (sym e))

  pub may_store : Allowed began (Store 512 2)
  may_store = record {
    inside = in_words;
    room = omega arith;
    small = omega arith;
    fits = record {
      ends = record { next = refl; known = refl; below = omega arith; drained = refl; unentered = refl };
      restored = λ p x b e. absurd (no_record x e);
      whole = (refl, refl);
    };
  }

  pub may_flush : Allowed stored (Flush 64)
  may_flush = (0, _, omega arith, refl, (refl, refl))

  pub may_drain : Allowed flushed Drain
  may_drain = (0, _, omega arith, refl, refl)

  pub may_store_again : Allowed drained (Store 512 3)
  may_store_again = record {
    inside = in_words;
    room = omega arith;
    small = omega arith;
    fits = record {
      ends = record { next = refl; known = refl; below = omega arith; drained = refl; unentered = refl };
      restored = λ p x b e. absurd (no_record x e);
      whole = (refl, refl);
    };
  }

  -- the look tells the generation
  pub begins : (w x : ℕ) → w ≡ word_of_generation sh 0 → (m looked_ opened_ : Solo) → StandsAs m (first_view sh)
      → Made Allowed (StandsAs m) (StandsAs looked_) (Load w x)
      → ((v : View) → StandsAs m v → Allowed v (Load w x) → InWorld v w x)
      → Made Allowed (StandsAs looked_) (StandsAs opened_) (NumberSeen n) → StandsAs opened_ began
  begins w x at m looked_ opened_ st made world next = let lane = sh.lanes_from in
      let first = looks_first StandsAs Allowed grants_allowed m looked_ sh 0 w x (first_lane sh) 1
      (record { made = made; world = world }) at refl (record { shape = refl; lane = omega (arith, lane); seen = st }) in
      (next (looked (first_lane sh) 1) first.1 refl).0

  module _ (w : ℕ) (at : w ≡ word_of_generation sh 0) (m : Solo) where
    pub can_store : StandsAs m began → CanStep m (Store w 2)
    can_store st = meets_standing m began (Store w 2) st (subst (λ y. Allowed began (Store y 2)) (sym at) may_store)

    pub can_flush : StandsAs m stored → CanStep m (Flush 64)
    can_flush st = meets_standing m stored (Flush 64) st may_flush

    pub can_drain : StandsAs m flushed → CanStep m Drain
    can_drain st = meets_standing m flushed Drain st may_drain

    pub can_store_again : StandsAs m drained → CanStep m (Store w 3)
    can_store_again st = meets_standing m drained (Store w 3) st (subst (λ y. Allowed drained (Store y 3)) (sym at) may_store_again)

    module _ {T : Type 0} (new : Solo) (r : Result T Stopped) where
      pub did_store : StandsAs m began → MadeOrStopped Allowed (StandsAs m) (StandsAs new) (λ _. Store w 2) r → StandsAs new stored
      did_store st made = subst (λ y. StandsAs new (after began (Store y 2))) at
          (went_on m new began (Store w 2) r made st (subst (λ y. Allowed began (Store y 2)) (sym at) may_store) (λ stops. absurd (omega (arith, stops))))

      pub did_flush : StandsAs m stored → MadeOrStopped Allowed (StandsAs m) (StandsAs new) (λ _. Flush 64) r → StandsAs new flushed
      did_flush st made = went_on m new stored (Flush 64) r made st may_flush (λ stops. absurd (omega (arith, stops)))

      pub did_drain : StandsAs m flushed → MadeOrStopped Allowed (StandsAs m) (StandsAs new) (λ _. Drain) r → StandsAs new drained
      did_drain st made = went_on m new flushed Drain r made st may_drain (λ stops. absurd (omega (arith, stops)))
