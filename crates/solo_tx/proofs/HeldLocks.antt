-- What a lane's list of locks says of its view, and of the object under one of them.
use Rattle.std.proofs.Common.{◌≡◌, ◌≢◌, ℕ, ◌+◌, ◌*◌, ◌<◌, ◌≤◌, ◌&&◌, ◌||◌, ⊎_elim, not, Bool, true, false, eqb, eq-eqb, ne_eqb, Contains, List, [], ◌∷◌, length, map, slice_index, refl, sym, ap, ◌∙◌, subst, arith}
use Rattle.std.specs.List.{list_any}
use Rattle.std.proofs.lemmas.Bool.{and_parts, cases_eq, eqb-true}
use Rattle.std.proofs.lemmas.List.{get_or-map, length-map}
use Rattle.std.proofs.lemmas.List.Folds.{Any-from_list_any}
use Rattle.solo_crash.specs.OpenCall.{lock_of}
use Rattle.solo_crash.specs.Operations.{HasRange, IsHeld, IsNotHeld, PassesEnd}
use Rattle.solo_model.specs.Transaction.{is_locked}
use Rattle.pm_objects.specs.declared.ids.Oid.{Oid}
use Rattle.solo_view.specs.Founds.{FindsKnown}
use Rattle.solo_view.specs.Held.{is_known, is_under}
use Rattle.solo_view.specs.Steps.Step.{Load}
use Rattle.solo_view.specs.View.{View, Lock}
use Rattle.solo_view.specs.Views.{after}
use Rattle.solo_undo.proofs.Lockings.{locked_is_plain}
use Rattle.solo_world.specs.Lanes.{lock_of as view_lock}
use Rattle.solo_world.specs.Opening.{Opening}
use Rattle.solo_world.specs.declared.lane.HeldLock.{HeldLock}
use Rattle.solo_world.specs.declared.lane.Lane.{Lane}
use Rattle.solo_lock.specs.Finding.{FindsObject}
use Rattle.solo_tx.proofs.AddsAtWork.{listed_is_known}
use Rattle.solo_tx.proofs.GoingOn.{HasSameFields, KeepsObjects}
use Rattle.solo_tx.proofs.LearnsAtWork.{Anywhere, forget, end_kept, look_at_work, moved, objects_learned, range_kept, looks_none, looks_once}
use Rattle.solo_tx.proofs.Objects.{is_found, size_under}
use Rattle.solo_tx.specs.AtWork.{IsAtWork}
use Rattle.solo_tx.specs.Learning.{Finds, HasChecked}
use Rattle.solo_tx.specs.Ranges.{is_lock_of}

-- where no line is before the offset
pub no_line : (locks : List HeldLock) (off : ℕ) (write : Bool) → ((line : ℕ) → 64 * line + 64 ≢ off) → is_locked (map lock_of (map view_lock locks)) off write ≡ false
no_line [] off write none = refl
no_line (l ∷ locks) off write none =
    ap (λ b. (b && (l.write || not write)) || is_locked (map lock_of (map view_lock locks)) off write) (ne_eqb (64 * l.line + 64) off (none l.line)) ∙ no_line locks off write none

-- by the line, or by the offset behind it
by_line : (line other off : ℕ) → off ≡ 64 * line + 64 → eqb (64 * other + 64) off ≡ eqb other line
by_line line other off is = ⊎_elim
    (λ (same : other ≡ line). eq-eqb (64 * other + 64) off (omega (arith, same, is)) ∙ sym (eq-eqb other line same))
    (λ (apart : other ≢ line). ne_eqb (64 * other + 64) off (λ same. apart (omega (arith, same, is))) ∙ sym (ne_eqb other line apart))
    (cases_eq other line)

pub line_locked : (locks : List HeldLock) (line off : ℕ) (write : Bool) → off ≡ 64 * line + 64 → is_locked (map lock_of (map view_lock locks)) off write ≡ list_any (is_lock_of line write) locks
line_locked [] line off write is = refl
line_locked (l ∷ locks) line off write is =
    ap (λ b. (b && (l.write || not write)) || is_locked (map lock_of (map view_lock locks)) off write) (by_line line l.line off is)
    ∙ ap (λ b. is_lock_of line write l || b) (line_locked locks line off write is)

module _ {M : Type 0} (o : Opening) (at : M → View → Type 0) (lane : Lane M) (v : View) (work : IsAtWork o at lane v) where
  pub is_not_held : (id : Oid) (write : Bool) → (id.pool ≡ lane.pool → is_locked (map lock_of (map view_lock lane.locks.items)) id.off write ≡ false) → IsNotHeld v id write
  is_not_held id write none same = ap (λ locks. is_locked (map lock_of locks) id.off write) (sym work.seen.locks) ∙ none (same ∙ work.seen.pool)

  pub not_held : (id : Oid) (write : Bool) → (id.pool ≡ lane.pool → is_locked (map lock_of (map view_lock lane.locks.items)) id.off write ≡ false) → HasChecked o at lane v (λ w. IsNotHeld w id write)
  not_held id write none = record { loads = 0; view = v; looks = looks_none v; works = work; holds = is_not_held id write none }

  module _ (line : ℕ) (write : Bool) (holds : list_any (is_lock_of line write) lane.locks.items ≡ true) where
    held_lock : (l : Lock) × Contains v.locks l × (l.line ≡ line) × ((l.write || not write) ≡ true)
    held_lock =
        let t = Any-from_list_any (is_lock_of line write) lane.locks.items holds in
        let found = and_parts (eqb t.1.line line) (t.1.write || not write) t.4 in (
          view_lock t.1,
          subst (λ locks. Contains locks (view_lock t.1)) work.seen.locks
              (t.0, (let low = t.2 in let n = length-map lane.locks.items view_lock in omega (arith, low, n)), get_or-map view_lock lane.locks.items t.0 t.1 (view_lock t.1) t.2 ∙ ap view_lock t.3),
          eqb-true t.1.line line found.0,
          found.1,
        )

    pub size_in_pool : 8 * line + 1 < length v.words
    size_in_pool =
        let t = held_lock in
        let low = (locked_is_plain o work.sound v work.opening t.0 (8 * t.0.line + 1) t.1 (is_found v work.objects t.0 t.1) (size_under v work.objects t.0 t.1)).1 in
        let same = t.2 in omega (arith, low, same)

    pub object_held : (id : Oid) → id.pool ≡ lane.pool → id.off ≡ 64 * line + 64 → IsHeld v id write
    object_held id of_pool place =
        let t = held_lock in
        let object : FindsObject v t.0 = work.objects t.0 t.1 in
        record {
          lock = t.0;
          lines = object.lines;
          held = t.1;
          block = object.block;
          allows = t.3;
          of_pool = of_pool ∙ sym work.seen.pool;
          place = place ∙ ap (λ n. 64 * n + 64) (sym t.2);
        }

    module _ (x : ℕ) (finds : FindsKnown v (8 * line + 1) x) where
      size_is : x ≡ slice_index v.words (8 * held_lock.0.line + 1)
      size_is =
          let t = held_lock in
          let word : 8 * line + 1 ≡ 8 * t.0.line + 1 = ap (λ n. 8 * n + 1) (sym t.2) in
          finds (ap (is_known v) word ∙ listed_is_known v (8 * t.0.line + 1) (work.objects t.0 t.1).known) ∙ ap (slice_index v.words) word

      -- it finds what the view has, since the view knows it
      finds_so : Finds v (8 * line + 1) x
      finds_so = (finds, λ alone. let t = held_lock in size_is ∙ ap (λ n. slice_index v.words (8 * n + 1)) t.2)

      pub has_range : (id : Oid) (off len : ℕ) → id.pool ≡ lane.pool → id.off ≡ 64 * line + 64 → off + len ≤ x → HasRange v id off len write
      unfolding object_held
      has_range id off len of_pool place low = record {
        object = object_held id of_pool place;
        size_known = (work.objects held_lock.0 held_lock.1).known;
        inside = (let same = size_is in omega (arith, low, same));
      }

      pub passes_end : (id : Oid) (off len : ℕ) → id.pool ≡ lane.pool → id.off ≡ 64 * line + 64 → x < off + len → PassesEnd v id off len write
      unfolding object_held
      passes_end id off len of_pool place high = record {
        object = object_held id of_pool place;
        size_known = (work.objects held_lock.0 held_lock.1).known;
        outside = (let same = size_is in omega (arith, high, same));
      }

      -- the lane has looked at the size
      module _ (next : Lane M) (fields : HasSameFields lane next) (records : next.records ≡ lane.records) (seen : at next.memory (after v (Load (8 * line + 1) x))) where
        under : is_under (8 * line + 1) held_lock.0 ≡ true
        under = let t = held_lock in ap (λ n. is_under (8 * n + 1) t.0) (sym t.2) ∙ size_under v work.objects t.0 t.1

        somewhere : IsAtWork o Anywhere lane v
        somewhere = forget o at Anywhere lane v work tt

        pub looked_at_work : IsAtWork o at next (after v (Load (8 * line + 1) x))
        looked_at_work = moved o at lane next (after v (Load (8 * line + 1) x)) (look_at_work o lane v somewhere held_lock.0 held_lock.1 (8 * line + 1) x under finds) fields records seen

        size_objects : KeepsObjects v (after v (Load (8 * line + 1) x))
        size_objects = objects_learned o lane v somewhere held_lock.0 held_lock.1 (8 * line + 1) x under finds

        pub range_checked : (id : Oid) (off len : ℕ) → id.pool ≡ lane.pool → id.off ≡ 64 * line + 64 → off + len ≤ x → HasChecked o at next v (λ w. HasRange w id off len write)
        range_checked id off len of_pool place low = record {
          loads = 1;
          view = after v (Load (8 * line + 1) x);
          looks = looks_once v (8 * line + 1) x size_in_pool finds_so size_objects.locks;
          works = looked_at_work;
          holds = range_kept v (after v (Load (8 * line + 1) x)) id off len write size_objects (has_range id off len of_pool place low);
        }

        pub end_checked : (id : Oid) (off len : ℕ) → id.pool ≡ lane.pool → id.off ≡ 64 * line + 64 → x < off + len → HasChecked o at next v (λ w. PassesEnd w id off len write)
        end_checked id off len of_pool place high = record {
          loads = 1;
          view = after v (Load (8 * line + 1) x);
          looks = looks_once v (8 * line + 1) x size_in_pool finds_so size_objects.locks;
          works = looked_at_work;
          holds = end_kept v (after v (Load (8 * line + 1) x)) id off len write size_objects (passes_end id off len of_pool place high);
        }
