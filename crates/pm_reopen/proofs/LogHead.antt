-- A sealed lane's last entry, and the seal of one that is not.
use Rattle.std.proofs.Common.{◌≡◌, ⊎_elim, ℕ, zero, suc, ◌+◌, ◌-◌, ◌/◌, ◌<◌, ◌≤◌, ◌&&◌, ◌||◌, Bool, true, false, cond, not, eqb, leb, ltb, List, Option, Some, None, sym, ◌∙◌, ap, arith}
use Rattle.std.specs.List.{flat_map, list_any, range_with_len}
use Rattle.std.specs.Option.{option_to_list}
use Rattle.std.proofs.lemmas.Bool.{and_parts, cases_lt, eq-eqb, false≢true, leb-true, le-leb, lt-ltb, not-false, or_left, or_right}
use Rattle.std.proofs.lemmas.List.Folds.{list_any-append}
use Rattle.pm_record.specs.Redo.{redo_of}
use Rattle.pm_record.specs.declared.redo.Redo.{Redo}
use Rattle.pm_image.specs.Logs.{area_word, entries, entry_pair, generation, is_sealed, records, seal_word}
use Rattle.pm_image.specs.LogFaults.{bad_entry, ends_log, good_entry, good_lane, is_target}
use Rattle.pm_image.proofs.Gathering.{entries_by_number, entry_at}
use Rattle.pm_image.proofs.Redoing.{sealed_few}
use Rattle.pm_recover.specs.Recovery.{has_record, has_torn_slot, is_raised}
use Rattle.pm_reopen.specs.Plan.{restores, writes}
use Rattle.pm_reopen.proofs.Cleared.{touches}
use Rattle.pm_reopen.proofs.Targets.{end_place}

any_part : (p : Redo → Bool) (f : ℕ → List Redo) (a n k : ℕ) → a ≤ k → k < a + n → list_any p (f k) ≡ true → list_any p (flat_map f (range_with_len a n)) ≡ true
any_part p f a zero k from to some = absurd (omega (arith, from, to))
any_part p f a (suc n) k from to some = ⊎_elim
    (λ (later : a < k).
    list_any-append p (f a) (flat_map f (range_with_len (a + 1) n)) ∙ or_right (list_any p (f a)) (list_any p (flat_map f (range_with_len (a + 1) n))) (any_part p f (a + 1) n k (omega (arith, later)) (omega (arith, to)) some))
    (λ (here : k ≤ a).
    let same : k ≡ a = omega (arith, here, from) in
    list_any-append p (f a) (flat_map f (range_with_len (a + 1) n)) ∙ or_left (list_any p (f a)) (list_any p (flat_map f (range_with_len (a + 1) n))) (sym (ap (λ (i : ℕ). list_any p (f i)) same) ∙ some))
    (cases_lt a k)

last_touches : (X : List ℕ) (lanes zones k i : ℕ) (o : Option Redo) → i + 1 ≡ seal_word X k → good_entry X lanes zones k i o ≡ true → touches (area_word k) (option_to_list o) ≡ true
last_touches X lanes zones k i None last good = absurd (false≢true good)
last_touches X lanes zones k i (Some e) last good =
    let ends : ends_log X k e ≡ true = sym (ap (λ (b : Bool). cond b (ends_log X k e) (is_target lanes zones (e.place / 8))) (eq-eqb (i + 1) (seal_word X k) last)) ∙ good in
    let place = end_place X k e ends in
    ap (λ (b : Bool). b || false) (eq-eqb (e.place / 8) (area_word k) (omega (arith, place)))

-- the log of a sealed lane sets the generation
pub log_ends_touch : (X : List ℕ) (lanes zones k : ℕ) → is_sealed X k ≡ true → ((i : ℕ) → i < 64 → bad_entry X lanes zones k i ≡ false) → touches (area_word k) (writes X k) ≡ true
unfolding writes
log_ends_touch X lanes zones k sealed none =
    let few = sealed_few X k sealed in
    let some = leb-true 1 (seal_word X k) (and_parts (leb 1 (seal_word X k)) (leb (seal_word X k) 64) sealed).0 in
    let i : ℕ = seal_word X k - 1 in
    let last : seal_word X k - 1 + 1 ≡ seal_word X k = omega (arith, some) in
    let below = lt-ltb (seal_word X k - 1) (seal_word X k) (omega (arith, some)) in
    let good_X : Bool = good_entry X lanes zones k (seal_word X k - 1) (redo_of (entry_pair X k (seal_word X k - 1))) in
    let good : good_entry X lanes zones k (seal_word X k - 1) (redo_of (entry_pair X k (seal_word X k - 1))) ≡ true =
    not-false good_X (sym (λ j. (sealed j && below j) && not good_X) ∙ none (seal_word X k - 1) (omega (arith, some, few))) in
    list_any-append (λ (e : Redo). eqb (e.place / 8) (area_word k)) (flat_map restores (records X k)) (entries X k)
    ∙ or_right (touches (area_word k) (flat_map restores (records X k))) (touches (area_word k) (entries X k))
    (ap (touches (area_word k)) (entries_by_number X k sealed)
    ∙ any_part (λ (e : Redo). eqb (e.place / 8) (area_word k)) (entry_at X k) 0 (seal_word X k) (seal_word X k - 1) (omega arith) (omega (arith, some)) (last_touches X lanes zones k (seal_word X k - 1) (redo_of (entry_pair X k (seal_word X k - 1))) last good))

pub sealed_not_raised : (X : List ℕ) (k : ℕ) → is_sealed X k ≡ true → is_raised X k ≡ false
unfolding is_raised
sealed_not_raised X k sealed = (λ j. not (sealed j) && (has_record X k || (ltb (generation X k) 4611686018427387904 && has_torn_slot X k)))

pub zero_seal : (X : List ℕ) (k : ℕ) → is_sealed X k ≡ false → good_lane X k ≡ true → seal_word X k ≡ 0
unfolding good_lane
zero_seal X k open_log good =
    let most = leb-true (seal_word X k) 64 (and_parts (leb 1 (Rattle.pm_image.specs.Logs.generation_word X k) && leb (Rattle.pm_image.specs.Logs.generation_word X k) 4611686018427387904) (leb (seal_word X k) 64) good).1 in
    ⊎_elim
    (λ (none : seal_word X k < 1). omega (arith, none))
    (λ (some : 1 ≤ seal_word X k). absurd (false≢true (sym open_log ∙ (λ j. le-leb 1 (seal_word X k) some j && le-leb (seal_word X k) 64 most j))))
    (cases_lt (seal_word X k) 1)
