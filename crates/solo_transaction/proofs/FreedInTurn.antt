-- Objects are freed one after another, each named once, and then what is reserved comes to be: which the call had made, and how many its lists have behind that.
use Rattle.std.proofs.Common.{◌≡◌, ◌≢◌, ⊎_elim, ℕ, ◌+◌, ◌*◌, ◌≤◌, Bool, true, false, not, cond, count_by, Contains, List, [], ◌∷◌, ◌++◌, length, map, Option, None, Some, is_some, refl, sym, ap, ◌∙◌, arith}
use Rattle.std.specs.Prelude.{nat_eq}
use Rattle.std.specs.List.{AllByRecursion, IsDistinct, filter, find, list_any}
use Rattle.std.specs.Option.{option_map}
use Rattle.std.proofs.lemmas.Bool.{eqb-false, eqb-true, ne_eqb}
use Rattle.std.proofs.lemmas.List.{length-append, length-map}
use Rattle.std.proofs.lemmas.List.Filters.{length-filter_both}
use Rattle.std.proofs.lemmas.List.Folds.{Any-from_list_any}
use Rattle.std.proofs.lemmas.List.Sums.{sum_by-cons}
use Rattle.std.proofs.lemmas.Map.Views.{any-filter_same}
use Rattle.pm_image.proofs.Members.{first_member, later_member, member_cases, no_member}
use Rattle.pm_objects.specs.declared.ids.Oid.{Oid}
use Rattle.solo_model.specs.Actions.{Action, Reservation, none_pending}
use Rattle.solo_crash.proofs.ManyObjects.{AreOnce}
use Rattle.solo_crash.proofs.OnceMade.{alone_there, once_kept}
use Rattle.solo_crash.specs.CallBlocks.{CallBlocks, NewObject, blocks_in, is_at, reserved_object, with_all_freed, with_all_made, with_freed, with_made}
use Rattle.solo_crash.specs.OnActions.{entries_published}
use Rattle.solo_crash.specs.Pending.{pending_before, pending_in}
use Rattle.solo_made.specs.declared.objects.Made.{Made}
use Rattle.solo_made.specs.Made.{BlockLists, new_of}
use Rattle.solo_pending.specs.AllPending.{IsPendingAs, reserved_as}
use Rattle.solo_pending.specs.Pending.{action_of}
use Rattle.solo_pending.specs.declared.pending.PendingActions.{PendingActions}
use Rattle.solo_view.specs.View.{View}
use Rattle.solo_world.specs.Opening.{Opening}
use Rattle.solo_world.specs.declared.lane.Lane.{Lane}
use Rattle.solo_transaction.proofs.ModelEntries.{named_before, named_told, sets_named_once}
use Rattle.solo_transaction.proofs.Owned.{as_many_listed, find_none, find_some, member_passes, not_made}
use Rattle.solo_transaction.specs.AtWork.{IsAtWorkWith}

-- each object is named once
abbrev pub AreNamedOnce : List Oid → Type 0
AreNamedOnce ids = IsDistinct nat_eq (map (λ (id : Oid). id.off) ids)

-- what is to be freed is, where nothing was asked for late
pub named_now : (v : View) → (pending_in v).late ≡ false → AreNamedOnce (pending_in v).frees
named_now v = named_told (pending_before v) v.call (named_before none_pending v.entries (sets_named_once []))

none_named : (off : ℕ) (ids : List Oid) → AllByRecursion (λ y. nat_eq off y ≡ false) (map (λ (id : Oid). id.off) ids) → (other : Oid) → Contains ids other → off ≢ other.off
none_named off [] apart other there = absurd (no_member other there)
none_named off (id ∷ ids) apart other there = ⊎_elim
    (λ (here : id ≡ other). λ same. eqb-false off id.off apart.0 (same ∙ ap (λ (x : Oid). x.off) (sym here)))
    (λ (later : Contains ids other). none_named off ids apart.1 other later)
    (member_cases id ids other there)

-- none of those behind the first is at its offset, and they are named once
pub first_alone : (id : Oid) (ids : List Oid) → AreNamedOnce (id ∷ ids) → ((other : Oid) → Contains ids other → id.off ≢ other.off) × AreNamedOnce ids
unfolding IsDistinct
first_alone id ids named = (none_named id.off ids named.0, named.1)

-- ---- what was made

without_there : (off other : ℕ) → off ≢ other → (news : List NewObject) → list_any (is_at off) (filter (λ (n : NewObject). not (is_at other n)) news) ≡ list_any (is_at off) news
without_there off other differ news =
    any-filter_same (is_at off) (λ (n : NewObject). not (is_at other n)) true (λ n here. ap not (ne_eqb n.off other (λ same. differ (sym (eqb-true n.off off here) ∙ same)))) news

made_else : (off other : ℕ) (b : CallBlocks) → off ≢ other → list_any (is_at off) (with_freed other b).made ≡ list_any (is_at off) b.made
made_else off other b differ = at (list_any (is_at other) b.made) where
  at : (made : Bool)
      → list_any (is_at off) (cond made (record b { made = filter (λ (n : NewObject). not (is_at other n)) b.made; dropped = b.dropped ++ filter (is_at other) b.made }) (record b { freed = b.freed ++ other ∷ [] })).made
      ≡ list_any (is_at off) b.made
  at true = without_there off other differ b.made
  at false = refl

-- what is at an offset where nothing is freed was made before
pub made_before : (ids : List Oid) (b : CallBlocks) (off : ℕ) → ((id : Oid) → Contains ids id → off ≢ id.off) → list_any (is_at off) (with_all_freed ids b).made ≡ list_any (is_at off) b.made
made_before [] b off other = refl
made_before (id ∷ ids) b off other = made_before ids (with_freed id.off b) off (λ x there. other x (later_member id ids x there)) ∙ made_else off id.off b (other id (first_member id ids))

-- ---- how many

once_freed : (off : ℕ) (b : CallBlocks) → AreOnce b.made → AreOnce (with_freed off b).made
once_freed off b once = at (list_any (is_at off) b.made) where
  at : (made : Bool)
      → AreOnce (cond made (record b { made = filter (λ (n : NewObject). not (is_at off n)) b.made; dropped = b.dropped ++ filter (is_at off) b.made }) (record b { freed = b.freed ++ off ∷ [] })).made
  at true = once_kept (λ (n : NewObject). not (is_at off n)) b.made once
  at false = once

-- the call's blocks behind a free, by whether it had made the object
abbrev behind : ℕ → CallBlocks → Bool → CallBlocks
behind off b made = cond made (record b { made = filter (λ (n : NewObject). not (is_at off n)) b.made; dropped = b.dropped ++ filter (is_at off) b.made }) (record b { freed = b.freed ++ off ∷ [] })

count_one : (off : ℕ) (b : CallBlocks) → AreOnce b.made
    → length (with_freed off b).made + length (with_freed off b).freed + 2 * cond (list_any (is_at off) b.made) 1 0 ≡ length b.made + length b.freed + 1
count_one off b once = at (list_any (is_at off) b.made) refl where
  at : (made : Bool) → list_any (is_at off) b.made ≡ made → length (behind off b made).made + length (behind off b made).freed + 2 * cond made 1 0 ≡ length b.made + length b.freed + 1
  at true is =
      let t = Any-from_list_any (is_at off) b.made is in
      let alone = alone_there b.made t.1 once (t.0, t.2, t.3) in
      let one : length (filter (is_at off) b.made) ≡ 1 = ap (λ (o : ℕ). length (filter (is_at o) b.made)) (sym (eqb-true t.1.off off t.4)) ∙ ap length alone in
      let both = length-filter_both (is_at off) (λ (n : NewObject). not (is_at off n)) (λ n. refl) b.made in
      omega (arith, one, both)
  at false is = let more = length-append b.freed (off ∷ []) in omega (arith, more)

count_same : (p q : Oid → Bool) (ids : List Oid) → ((id : Oid) → Contains ids id → p id ≡ q id) → count_by p ids ≡ count_by q ids
count_same p q [] same = refl
count_same p q (id ∷ ids) same =
    sum_by-cons (λ (x : Oid). cond (p x) 1 0) id ids
    ∙ ((λ j. cond (same id (first_member id ids) j) 1 0 + count_same p q ids (λ x there. same x (later_member id ids x there)) j) ∙ sym (sum_by-cons (λ (x : Oid). cond (q x) 1 0) id ids))

-- each that the call had made takes its entry back, and any other has one more
pub count_all : (ids : List Oid) (b : CallBlocks) → AreOnce b.made → AreNamedOnce ids
    → length (with_all_freed ids b).made + length (with_all_freed ids b).freed + 2 * count_by (λ (id : Oid). list_any (is_at id.off) b.made) ids ≡ length b.made + length b.freed + length ids
count_all [] b once named = omega arith
count_all (id ∷ ids) b once named =
    let alone = first_alone id ids named in
    let rest = count_all ids (with_freed id.off b) (once_freed id.off b once) alone.1 in
    let same = count_same (λ (x : Oid). list_any (is_at x.off) (with_freed id.off b).made) (λ (x : Oid). list_any (is_at x.off) b.made) ids (λ x there. made_else x.off id.off b (λ e. alone.0 x there (sym e))) in
    let one = count_one id.off b once in
    let first = sum_by-cons (λ (x : Oid). cond (list_any (is_at x.off) b.made) 1 0) id ids in
    omega (arith, rest, same, one, first)

-- and each that is made has
pub count_made : (rs : List Reservation) (b : CallBlocks) → (length (with_all_made rs b).made ≡ length b.made + length rs) × ((with_all_made rs b).freed ≡ b.freed)
count_made [] b = (omega arith, refl)
count_made (r ∷ rs) b =
    let rest = count_made rs (with_made (reserved_object r) b) in
    let one = length-append b.made (reserved_object r ∷ []) in
    let many = rest.0 in
    (omega (arith, many, one), rest.1)

freed_one : (off : ℕ) (b : CallBlocks) → length b.freed ≤ length (with_freed off b).freed
freed_one off b = at (list_any (is_at off) b.made) where
  at : (made : Bool)
      → length b.freed
      ≤ length (cond made (record b { made = filter (λ (n : NewObject). not (is_at off n)) b.made; dropped = b.dropped ++ filter (is_at off) b.made }) (record b { freed = b.freed ++ off ∷ [] })).freed
  at true = omega arith
  at false = let more = length-append b.freed (off ∷ []) in omega (arith, more)

-- what is listed as freed stays so
pub freed_grows : (ids : List Oid) (b : CallBlocks) → length b.freed ≤ length (with_all_freed ids b).freed
freed_grows [] b = omega arith
freed_grows (id ∷ ids) b = let one = freed_one id.off b in let rest = freed_grows ids (with_freed id.off b) in omega (arith, one, rest)

-- ---- of a lane at work

-- what a list answers at an offset, the model's has
pub made_at_is : (off : ℕ) (news : List NewObject) (found : Option Made) (b : Bool) → is_some found ≡ b → option_map new_of found ≡ find (is_at off) news → list_any (is_at off) news ≡ b
made_at_is off news None true some same = absurd cc
made_at_is off news (Some m) true some same =
    let t = find_some (is_at off) news (new_of m) (sym same) in member_passes (is_at off) news (new_of m) t.0 t.1
made_at_is off news found false none same = find_none (is_at off) news (not_made off news found none same)

module _ {M : Type 0} (o : Opening) (at : M → View → Type 0) (lane : Lane M) (blocks : BlockLists) (v : View) (all : IsAtWorkWith o at lane blocks v) (list : PendingActions) (is : IsPendingAs list (pending_in v)) (late : (pending_in v).late ≡ false) where
  -- so many entries there would be
  pub entries_all : (made : ℕ) → made ≡ count_by (λ (id : Oid). list_any (is_at id.off) (blocks_in v).made) list.frees.items → (count : ℕ) → count ≡ length (blocks_in v).freed + length (blocks_in v).made
      → entries_published v + 2 * made ≡ length lane.entries.items + length list.sets.items + 1 + count + length list.frees.items + length list.reserved.items
  entries_all made some count many =
      let listed = as_many_listed o at lane blocks v all in
      let sets = ap (λ (actions : List Action). length actions) is.sets in let as_many = length-map list.sets.items action_of in
      let reserved = ap length is.reserved ∙ length-map (pending_in v).reserved reserved_as in
      let frees = ap (λ (ids : List Oid). length ids) is.frees in
      let freed = count_all (pending_in v).frees (blocks_in v) all.work.under_way.has.once (named_now v late) in
      let same = ap (λ (ids : List Oid). count_by (λ (id : Oid). list_any (is_at id.off) (blocks_in v).made) ids) is.frees in
      let news = count_made (pending_in v).reserved (with_all_freed (pending_in v).frees (blocks_in v)) in
      let made_news = news.0 in let freed_news = ap (λ (offs : List ℕ). length offs) news.1 in
      omega (arith, listed, sets, as_many, reserved, frees, freed, same, some, many, made_news, freed_news)
