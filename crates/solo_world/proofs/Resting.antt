-- A lane that rests, with nothing undrained and no call: one alone, as it is seen before its first call; and what it reserved it may give back.
use Rattle.std.proofs.Common.{◌≡◌, ℕ, ◌/◌, ◌^◌, ◌<◌, true, false, All, List, [], ◌∷◌, ◌++◌, length, Option, refl, sym, ap, ◌∙◌, subst, inl}
use Rattle.std.specs.Int.{bit_at}
use Rattle.std.specs.List.{list_any}
use Rattle.std.proofs.lemmas.Bool.{or_left, or_right}
use Rattle.std.proofs.lemmas.List.Elements.{All-nil}
use Rattle.std.proofs.lemmas.List.Folds.{list_any-append}
use Rattle.solo_memory.proofs.Unlocked.{sees_opened}
use Rattle.solo_memory.specs.Solo.{Sees, Solo, opened, view_of}
use Rattle.solo_view.specs.Blocks.{covers}
use Rattle.solo_view.specs.declared.change.Change.{Change}
use Rattle.solo_view.specs.declared.occ.Occ.{Occ}
use Rattle.solo_view.specs.Log.{Log, no_log}
use Rattle.solo_view.specs.Log.Phase.{Idle}
use Rattle.solo_view.specs.View.{View, Taken}
use Rattle.solo_view.specs.Views.{has_bit, reserves}
use Rattle.solo_world.proofs.Reserved.{bit_had}
use Rattle.solo_world.specs.Entries.{is_entered}
use Rattle.solo_world.specs.Lawful.{HasOcc, IsEarly, IsGivenWhole, MayVacate}
use Rattle.solo_world.specs.Records.{is_recorded}
use Rattle.solo_world.proofs.Exchanged.{exchanged_has}
use Rattle.solo_world.proofs.Vacated.{low_bit}

-- ---- over words that were opened with their occupancy words

module _ (words runs zone_words : List ℕ) (stop : Option ℕ) (pool lanes zones : ℕ) where
  abbrev occupied : Solo
  occupied = record (opened words stop) { runs = runs; zones = zone_words }

  abbrev pub first_view : View
  first_view = record (view_of occupied) { pool = pool; lanes = lanes; zones = zones }

  sees_occupied : length runs ≡ length words / 512 → length zone_words ≡ 32 → Sees occupied first_view
  sees_occupied pages zone_count =
      let s : Sees (opened words stop) (view_of (opened words stop)) = sees_opened words stop in
      record {
        lane = s.lane;
        words = s.words;
        changes = s.changes;
        stop = s.stop;
        calls = s.calls;
        within = s.within;
        numbers = s.numbers;
        count = s.count;
        counter = s.counter;
        lines = s.lines;
        locks = s.locks;
        zone_locks = s.zone_locks;
        runs = refl;
        zones = refl;
        pages = pages;
        zone_count = zone_count;
        zone_lock_count = s.zone_lock_count;
        alone = s.alone;
      }

  pub sees_first : (made m : Solo) → made ≡ opened words stop → m ≡ record made { runs = runs; zones = zone_words } → length runs ≡ length words / 512 → length zone_words ≡ 32 → Sees m first_view
  sees_first made m of is pages zone_count = subst (λ n. Sees n first_view) (sym (is ∙ ap (λ (n : Solo). record n { runs = runs; zones = zone_words }) of)) (sees_occupied pages zone_count)

-- ---- what it reserved

module _ (v : View) where
  -- what was reserved before is so still, and what was reserved last is
  pub reserved_before : (blocks more : List Taken) → v.reserved ≡ blocks ++ more → (at : Occ) (bit : ℕ) → list_any (has_bit at bit) blocks ≡ true → reserves v at bit ≡ true
  reserved_before blocks more reserved at bit has =
      ap (list_any (has_bit at bit)) reserved ∙ list_any-append (has_bit at bit) blocks more ∙ or_left (list_any (has_bit at bit) blocks) (list_any (has_bit at bit) more) has

  pub reserved_last : (blocks : List Taken) (t : Taken) → v.reserved ≡ blocks ++ t ∷ [] → (bit : ℕ) → bit_at t.bits bit ≡ 1 → reserves v t.at bit ≡ true
  reserved_last blocks t reserved bit set =
      ap (list_any (has_bit t.at bit)) reserved ∙ list_any-append (has_bit t.at bit) blocks (t ∷ [])
      ∙ or_right (list_any (has_bit t.at bit) blocks) (list_any (has_bit t.at bit) (t ∷ [])) (or_left (has_bit t.at bit t) false (bit_had t bit set))

  pub may_vacate_at_rest : (at : Occ) (bits : ℕ) → HasOcc v at → bits < 2 ^ 64 → ((bit : ℕ) → bit_at bits bit ≡ 1 → reserves v at bit ≡ true) → IsGivenWhole v at bits → v.changes ≡ [] → v.log ≡ no_log Idle → MayVacate v at bits
  may_vacate_at_rest at bits there small own whole drained log = record {
    there = there;
    small = small;
    own = λ bit set. inl (exchanged_has v at bit (low_bit bits bit small set) (own bit set));
    whole = whole;
    drained = subst (All (λ (c : Change). covers v.lanes v.words at bits c.word ≡ false)) (sym drained) (All-nil (λ (c : Change). covers v.lanes v.words at bits c.word ≡ false));
    unlogged = λ w covered. (ap (λ (l : Log). is_recorded l.records w) log, ap (λ (l : Log). is_entered l.entries w) log);
    early = subst IsEarly (sym (ap (λ (l : Log). l.phase) log)) tt;
  }
