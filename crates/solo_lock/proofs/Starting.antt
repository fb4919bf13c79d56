-- A lane alone, over a pool of one lane and one zone, whose call has just begun; and the one lock that it takes.
use Rattle.std.proofs.Common.{◌≡◌, inl, ℕ, ◌+◌, ◌*◌, ◌<◌, All, Bool, List, [], ◌∷◌, map, length, None, refl, sym, ap, ◌∙◌, subst, arith}
use Rattle.std.proofs.lemmas.List.Elements.{All-nil}
use Rattle.std.specs.Prelude.{slice_index}
use Rattle.solo_memory.specs.Solo.{Sees, Solo}
use Rattle.pm_objects.specs.declared.history.TxErr.TheVariants as error
use Rattle.solo_view.specs.Steps.Step.{NumberSeen}
use Rattle.solo_view.specs.View.{View, Lock}
use Rattle.solo_view.specs.Views.{after}
use Rattle.solo_world.proofs.Resting.{first_view}
use Rattle.solo_world.specs.Lanes.{IsIdle, IsSeenAs, lock_of}
use Rattle.solo_world.specs.Lawful.{generation_limit, is_holder}
use Rattle.solo_world.specs.Sequences.{IsReady}
use Rattle.solo_world.specs.declared.lane.HeldLock.{HeldLock}
use Rattle.solo_world.specs.declared.lane.Lane.{Lane}
use Rattle.solo_lock.proofs.GivenBack.{back_ready}
use Rattle.solo_lock.proofs.Taken.{no_lines, tried_unfound}
use Rattle.solo_lock.specs.Begun.{IsBegun}
use Rattle.solo_lock.specs.Locking.{IsFreeLine, gives, takes}
use Rattle.solo_lock.specs.Tests.{Begins}

none_of : (locks : List HeldLock) → map lock_of locks ≡ [] → locks ≡ []
none_of [] none = refl
none_of (l ∷ locks) none = absurd (let n = ap length none in omega (arith, n))

module _ (words runs zones : List ℕ) (n : ℕ) (size : length words ≡ 34816) (first_generation : slice_index words 512 ≡ 0) where
  abbrev pub begun_view : View
  begun_view = after (first_view words runs zones None 7 1 1) (NumberSeen n)

  pub begins : (lane : Lane Solo) → IsSeenAs Sees lane begun_view → IsIdle lane → lane.error ≡ error.None → lane.entries.items ≡ [] → n < generation_limit → Begins lane
  begins lane seen idle unharmed unlisted below = record {
    begun = (
      begun_view,
      record {
        seen = seen;
        unharmed = unharmed;
        unstopped = idle.unstopped;
        unlisted = unlisted;
        log = refl;
        undrawn = refl;
        undrained = inl refl;
        untold = refl;
        area = record { lane = omega arith; few = omega arith; inside = omega (arith, size); below = subst (λ g. g < generation_limit) (sym first_generation) (omega arith) };
        may_come = record { found = n; seen = (0, omega arith, refl); below = below };
        lines = no_lines begun_view refl;
      },
    );
    free = none_of lane.locks.items seen.locks;
  }

-- a lane that holds no lock tries one, and may give it back
module _ (lane new : Lane Solo) (is : Begins lane) (line : ℕ) (low : line < 64 + 128 * lane.shape.lanes + 4160 * lane.shape.zones) where
  abbrev v : View
  v = is.begun.0

  none : v.locks ≡ []
  none = sym is.begun.1.seen.locks ∙ ap (map lock_of) is.free

  pub line_is_free : IsFreeLine v line
  line_is_free = record {
    inside = (let size = is.begun.1.seen.shape.size in omega (arith, size, low));
    free = ap (λ (locks : List Lock). is_holder locks line) none;
  }

  pub one_ready : (write won : Bool) → IsBegun Sees new (after v (takes line write won)) → IsReady (Sees new.memory) (gives new.locks.items)
  one_ready write won begun = back_ready Sees new (after v (takes line write won)) (record { begun = begun; unfound = tried_unfound v line write won (subst (All (λ (l : Lock). l.block ≡ None)) (sym none) (All-nil (λ (l : Lock). l.block ≡ None))) })
