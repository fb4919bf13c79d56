-- Lane 0 alone, whose next entries set a bit of word 1544 and clear others of it: it may do so. For the tests.
use Rattle.std.proofs.Common.{◌≡◌, ◌^◌, ◌<◌, [], ◌∷◌, length, length-set, slice_index, slice_set, bit_or, get_or-set_same, None, false, true, refl, sym, subst, arith, inl}
use Rattle.std.proofs.lemmas.Nat.{or_lt}
use Rattle.solo_memory.specs.Solo.{Sees, Solo, opened, view_of}
use Rattle.solo_memory.proofs.Unlocked.{sees_opened}
use Rattle.pm_record.specs.declared.redo.Op.TheVariants as op
use Rattle.solo_view.specs.Log.{no_log}
use Rattle.solo_view.specs.Log.Phase.{Applying}
use Rattle.solo_view.specs.View.{View}
use Rattle.solo_view.specs.Views.{after_all}
use Rattle.solo_world.specs.Entries.{final_by}
use Rattle.solo_world.specs.Sequences.{IsReady, Ready, ands, finds_in, in_turn, makes_room, ors}

module _ (m : Solo) (is : m ≡ opened m.words None) (size : length m.words ≡ 2048) (seven : slice_index m.words 1544 ≡ 7) where
  -- the lane knows the word
  abbrev v : View
  v = record (view_of (opened m.words None)) { known = 1544 ∷ []; log = record (no_log (Applying 0)) { entries = final_by op.Or 1544 8 ∷ final_by op.And 1544 28 ∷ [] } }

  sees : Sees m v
  sees = subst (λ (n : Solo). Sees n v) (sym is) (let s = sees_opened m.words None in record {
    lane = s.lane;
    words = s.words;
    changes = s.changes;
    stop = s.stop;
    calls = s.calls;
    within = s.within;
    numbers = s.numbers;
    count = s.count;
    counter = s.counter;
    lines = s.lines;
    locks = s.locks;
    zone_locks = s.zone_locks;
    runs = s.runs;
    zones = s.zones;
    pages = s.pages;
    zone_count = s.zone_count;
    zone_lock_count = s.zone_lock_count;
    alone = s.alone;
  })

  -- the word is small still once its bit is set
  set_small : slice_index (slice_set m.words 1544 (bit_or (slice_index m.words 1544) 8)) 1544 < 2 ^ 64
  set_small = subst (λ n. n < 2 ^ 64) (sym (get_or-set_same m.words 1544 (bit_or (slice_index m.words 1544) 8) 0 (omega (arith, size)))) (or_lt 64 (slice_index m.words 1544) 8 (omega (arith, seven)) (omega arith))

  pub may_change : IsReady (Sees m) (in_turn (ors 1544 8) (ands 1544 28))
  unfolding IsReady in_turn ors ands makes_room finds_in Ready after_all
  may_change = (
    v,
    (
      sees,
      (
        record { inside = omega (arith, size); room = omega arith; fits = (true, refl); known = inl (record { known = (0, omega arith, refl); small = omega (arith, seven) }); word = omega arith },
        λ alone. refl,
        (
          record {
            inside = let same = length-set m.words 1544 (bit_or (slice_index m.words 1544) 8) in omega (arith, same, size);
            room = omega arith;
            fits = (false, refl);
            known = inl (record { known = (0, omega arith, refl); small = set_small });
            word = omega arith;
          },
          λ alone. refl,
          tt,
        ),
      ),
    ),
  )
