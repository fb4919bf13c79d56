-- A lane's tally follows its view, a counted call at a time.
use Rattle.std.proofs.Common.{suc, length, ◌≡◌, ℕ, ◌+◌, ◌-◌, ◌%◌, ◌^◌, ◌<◌, bit_and, Bool, true, false, cond, not, [], ◌∷◌, ◌++◌, Option, None, Some, IfSome, refl, sym, ap, ◌∙◌, arith}
use Rattle.std.proofs.lemmas.Bool.{both_ways}
use Rattle.std.proofs.lemmas.Nat.{and_mask}
use Rattle.std.proofs.lemmas.List.Elements.{All-filter, All-map, All-push, All-weaker}
use Rattle.std.specs.List.{All}
use Rattle.std.specs.Option.{option_map}
use Rattle.pm_memory.proofs.Images.{and_formed, or_formed}
use Rattle.pm_memory.proofs.Undrained.{undrained-length, undrained-flushed, undrained-drained}
use Rattle.pm_memory.specs.Changes.{change_flushed, changes_flushed, changes_drained, lies_in, CanAdd}
use Rattle.pm_memory.specs.Solo.{IsCount}
use Rattle.pm_view.specs.Bits.{all_bits}
use Rattle.pm_view.specs.Changes.{IsFormed, store_change, or_change, and_change}
use Rattle.pm_view.specs.declared.change.Change.{Change}
use Rattle.pm_view.specs.Counts.{is_counted, MayCount, HasRoom}
use Rattle.pm_view.specs.declared.occ.Occ.{Occ}
use Rattle.pm_view.specs.Log.{Phase, Idle, Open, Drawn, Sealing, Applying, Clearing, Retiring, Voiding}
use Rattle.pm_view.specs.Steps.{Step}
use Rattle.pm_view.specs.Steps.Step.{Load, Store, Or, And, Flush, Drain, TakeWrite, TakeRead, Raise, Give, ZoneTry, ZoneGive, Occupied, Occupy, Vacate, Draw, NumberSeen, StopSeen, SetStop, Tell}
use Rattle.pm_view.specs.View.{View}
use Rattle.pm_view.specs.Views.{after, begun, occupied, was_in}
use Rattle.pm_shared.specs.Plays.{FindsWas}
use Rattle.pm_shared.specs.Tallies.{Tallied, IsTally, tallied, with_change}

-- ---- A STEP THAT IS NOT COUNTED leaves the tally
begun_tally : (t : Tallied) (ph : Phase) (v : View) → IsTally t v → IsTally t (begun ph v)
begun_tally t Idle v is = record { stop = is.stop; calls = is.calls; changes = is.changes; formed = is.formed }
begun_tally t Open v is = is
begun_tally t (Drawn n) v is = is
begun_tally t (Sealing n) v is = is
begun_tally t (Applying todo) v is = is
begun_tally t Clearing v is = is
begun_tally t (Retiring n) v is = is
begun_tally t Voiding v is = is

occupied_tally : (t : Tallied) (won : Bool) (v : View) (at : Occ) (bits : ℕ) → IsTally t v → IsTally t (occupied won v at bits)
occupied_tally t true v at bits is = record { stop = is.stop; calls = is.calls; changes = is.changes; formed = is.formed }
occupied_tally t false v at bits is = is

pub plain_tally : (t : Tallied) (v : View) (s : Step) → is_counted s ≡ false → IsTally t v → IsTally t (after v s)
plain_tally t v (Load w x) plain is = record { stop = is.stop; calls = is.calls; changes = is.changes; formed = is.formed }
plain_tally t v (Store w x) plain is = absurd (both_ways true plain refl)
plain_tally t v (Or w bits found) plain is = absurd (both_ways true plain refl)
plain_tally t v (And w bits found) plain is = absurd (both_ways true plain refl)
plain_tally t v (Flush line) plain is = absurd (both_ways true plain refl)
plain_tally t v Drain plain is = absurd (both_ways true plain refl)
plain_tally t v (TakeWrite line won) plain is = record { stop = is.stop; calls = is.calls; changes = is.changes; formed = is.formed }
plain_tally t v (TakeRead line won) plain is = record { stop = is.stop; calls = is.calls; changes = is.changes; formed = is.formed }
plain_tally t v (Raise line won) plain is = record { stop = is.stop; calls = is.calls; changes = is.changes; formed = is.formed }
plain_tally t v (Give line) plain is = record { stop = is.stop; calls = is.calls; changes = is.changes; formed = is.formed }
plain_tally t v (ZoneTry zone won) plain is = record { stop = is.stop; calls = is.calls; changes = is.changes; formed = is.formed }
plain_tally t v (ZoneGive zone) plain is = record { stop = is.stop; calls = is.calls; changes = is.changes; formed = is.formed }
plain_tally t v (Occupied at found) plain is = record { stop = is.stop; calls = is.calls; changes = is.changes; formed = is.formed }
plain_tally t v (Occupy at bits won) plain is = let y = occupied_tally t won v at bits is in record { stop = y.stop; calls = y.calls; changes = y.changes; formed = y.formed }
plain_tally t v (Vacate at bits) plain is = record { stop = is.stop; calls = is.calls; changes = is.changes; formed = is.formed }
plain_tally t v (Draw n) plain is = record { stop = is.stop; calls = is.calls; changes = is.changes; formed = is.formed }
plain_tally t v (NumberSeen n) plain is = let y = begun_tally t v.log.phase v is in record { stop = y.stop; calls = y.calls; changes = y.changes; formed = y.formed }
plain_tally t v (StopSeen set) plain is = record { stop = is.stop; calls = is.calls; changes = is.changes; formed = is.formed }
plain_tally t v SetStop plain is = is
plain_tally t v (Tell operation reply) plain is = record { stop = is.stop; calls = is.calls; changes = is.changes; formed = is.formed }

-- ---- A COUNTED CALL
pub room : (t : Tallied) (v : View) → IsTally t v → HasRoom v.changes → CanAdd t.changes
room t v is more = let same = undrained-length t.changes v.changes is.changes in omega (arith, same, more)

one_more : (t : Tallied) (c : Change) → All IsFormed t.changes → IsFormed c
    → All IsFormed (t.changes ++ c ∷ [])
one_more t c all one = All-push IsFormed t.changes c all one

flush_formed : (line : ℕ) (c : Change) → IsFormed c → IsFormed (change_flushed line c)
flush_formed line c is = elim (lies_in line c) as (λ b. IsFormed (cond b (record c { flushed = true }) c)) [
  | true ↦ record { mask = is.mask; old = is.old; new = is.new }
  | false ↦ is
]

whole : (x : ℕ) → x < 2 ^ 64 → x ≡ bit_and x all_bits
whole x small = let low : bit_and x (2 ^ 64 - 1) ≡ x % 2 ^ 64 = and_mask x 64 in let e : x % 2 ^ 64 ≡ x = omega arith in sym (low ∙ e)

-- what the view keeps of a stored word is what the memory keeps
masked : (was : Option ℕ) (found : ℕ) → found < 2 ^ 64 → IfSome was (λ x. found ≡ x) → IfSome (option_map (λ (x : ℕ). bit_and x all_bits) was) (λ y. found ≡ y)
masked None found small is = tt
masked (Some x) found small is = whole found small ∙ ap (λ y. bit_and y all_bits) is

module _ (t : Tallied) (v : View) (may : MayCount v) (is : IsTally t v) where
  count_next : IsCount t.stop ((t.calls + 1) % 2 ^ 64) (suc (length v.calls))
  count_next = record {
    is = (let same = is.calls.is in omega (arith, same));
    within = λ stop at. let less : length v.calls < stop = may stop (is.stop ∙ at) in omega arith;
  }

  pub stored_tally : (w x found : ℕ) → x < 2 ^ 64 → found < 2 ^ 64 → FindsWas v w found → IsTally (with_change (store_change w found x) t) (after v (Store w x))
  stored_tally w x found fits small finds = record {
    stop = is.stop;
    calls = count_next;
    changes = (t.changes, store_change w found x, refl, record { word = refl; mask = refl; flushed = refl; old = masked (was_in v w) found small finds }, is.changes);
    formed = one_more t (store_change w found x) is.formed (record { mask = omega arith; old = sym (whole found small); new = sym (whole x fits) });
  }

  pub or_tally : (w bits found : ℕ) → bits < 2 ^ 64 → IsTally (with_change (or_change w bits found) t) (after v (Or w bits found))
  or_tally w bits found fits = record {
    stop = is.stop;
    calls = count_next;
    changes = (t.changes, or_change w bits found, refl, record { word = refl; mask = refl; flushed = refl; old = refl }, is.changes);
    formed = one_more t (or_change w bits found) is.formed (or_formed w bits found fits);
  }

  pub and_tally : (w bits found : ℕ) → IsTally (with_change (and_change w bits found) t) (after v (And w bits found))
  and_tally w bits found = record {
    stop = is.stop;
    calls = count_next;
    changes = (t.changes, and_change w bits found, refl, record { word = refl; mask = refl; flushed = refl; old = refl }, is.changes);
    formed = one_more t (and_change w bits found) is.formed (and_formed w bits found);
  }

  pub flushed_tally : (line : ℕ) → IsTally (tallied (changes_flushed line t.changes) t) (after v (Flush line))
  flushed_tally line = record { stop = is.stop; calls = count_next; changes = undrained-flushed line t.changes v.changes is.changes; formed = All-map IsFormed (change_flushed line) t.changes (All-weaker IsFormed (λ c. IsFormed (change_flushed line c)) (flush_formed line) t.changes is.formed) }

  pub drained_tally : IsTally (tallied (changes_drained t.changes) t) (after v Drain)
  drained_tally = record { stop = is.stop; calls = count_next; changes = undrained-drained t.changes v.changes is.changes; formed = All-filter (λ (c : Change). not c.flushed) IsFormed t.changes is.formed }
