-- What is noted under the locks of a page is what the view's words say of the blocks there, also once other words are looked at.
use Rattle.std.proofs.Common.{◌≡◌, ◌⊎◌, inl, inr, ℕ, ◌+◌, ◌*◌, ◌/◌, ◌<◌, Bool, true, false, cond, Contains, List, map, get_or, length, slice_index, Option, None, Some, refl, sym, ap, ◌∙◌, subst, arith}
use Rattle.std.specs.Option.{ForSome}
use Rattle.std.specs.Prelude.{IfSome}
use Rattle.std.proofs.Math.ListN.{get_or-map}
use Rattle.std.proofs.lemmas.Bool.{cond-false, cond-true}
use Rattle.std.proofs.lemmas.List.{get_or_default, length-map}
use Rattle.std.proofs.lemmas.List.Elements.{Contains-get_or}
use Rattle.solo_view.specs.Blocks.{block_at}
use Rattle.solo_view.specs.Steps.Step.{Load}
use Rattle.solo_view.specs.View.{View, Lock}
use Rattle.solo_view.specs.Views.{after, with_block}
use Rattle.solo_lock.proofs.Allocations.{IsBeside, block_beside, tells, tells_not}
use Rattle.solo_lock.specs.Lacking.{HasNoObject, HasUnfit, HoldsNoObject, IsMarked, IsPageMarked}

-- an element of a map is of one of the list
from_map : (f : Lock → Lock) (locks : List Lock) (l : Lock) → Contains (map f locks) l → (k : Lock) × (Contains locks k × (f k ≡ l))
from_map f locks l there =
    let k : Lock = get_or locks there.0 l in
    let n = length-map locks f in
    let low = there.1 in
    let less : there.0 < length locks = omega (arith, low, n) in
    (k, (Contains-get_or locks there.0 l less, sym (get_or-map f locks there.0 l) ∙ get_or_default (map f locks) there.0 (f l) l low ∙ there.2))

module _ (v : View) (w x : ℕ) where
  abbrev pub m : View
  m = after v (Load w x)

  abbrev noted : Lock → Lock
  noted = with_block v.lanes m.words w

  same_line : (k : Lock) → (noted k).line ≡ k.line
  same_line k = at (tells v.lanes m.words (k.line / 64) w) where
    at : (b : Bool) → (cond b (record k { block = block_at v.lanes m.words k.line }) k).line ≡ k.line
    at true = refl
    at false = refl

  -- the word tells of the page's blocks
  pub page_noted : (page : ℕ) → tells v.lanes m.words page w ≡ true → IsPageMarked m page
  page_noted page here l there of_page =
      let t = from_map noted v.locks l there in
      let k : Lock = t.0 in
      let line : k.line ≡ l.line = sym (same_line k) ∙ ap (λ (h : Lock). h.line) t.1.1 in
      let so : tells v.lanes m.words (k.line / 64) w ≡ true = ap (λ n. tells v.lanes m.words (n / 64) w) line ∙ ap (λ q. tells v.lanes m.words q w) of_page ∙ here in
      let is : record k { block = block_at v.lanes m.words k.line } ≡ l = sym (cond-true (tells v.lanes m.words (k.line / 64) w) (record k { block = block_at v.lanes m.words k.line }) k so) ∙ t.1.1 in
      subst (IsMarked m) is (inl refl)

  -- or it does not
  pub page_kept : (page : ℕ) → IsBeside v.lanes page w → IsPageMarked v page → IsPageMarked m page
  page_kept page beside marked l there of_page =
      let t = from_map noted v.locks l there in
      let k : Lock = t.0 in
      let line : k.line ≡ l.line = sym (same_line k) ∙ ap (λ (h : Lock). h.line) t.1.1 in
      let page_is : k.line / 64 ≡ page = ap (λ n. n / 64) line ∙ of_page in
      let apart : IsBeside v.lanes (k.line / 64) w = subst (λ q. IsBeside v.lanes q w) (sym page_is) beside in
      let is : k ≡ l = sym (cond-false (tells v.lanes m.words (k.line / 64) w) (record k { block = block_at v.lanes m.words k.line }) k (tells_not v.lanes m.words (k.line / 64) w apart)) ∙ t.1.1 in
      subst (IsMarked m) is
      (subst (λ (b : Option ℕ). (k.block ≡ b) ⊎ IfSome b (λ lines. lines ≡ 0)) (sym (block_beside v.lanes v.words w x k.line apart)) (marked k t.1.0 page_is))

-- where what was found under a lock does not fit, there is no object by the words
no_object_at : (v : View) (l : Lock) → IsMarked v l → ForSome l.block (λ lines. 64 * lines < 64 + slice_index v.words (8 * l.line + 1)) → HasNoObject v l.line
no_object_at v l marked past = at (block_at v.lanes v.words l.line) refl marked where
  at : (b : Option ℕ) → block_at v.lanes v.words l.line ≡ b → (l.block ≡ b) ⊎ IfSome b (λ lines. lines ≡ 0) → HasNoObject v l.line
  at None is either = inl is
  at (Some lines) is (inl same) = inr (record { lines = lines; block = is; past = past lines same })
  at (Some lines) is (inr none) = inr (record { lines = lines; block = is; past = omega (arith, none) })

pub unfit_lacks : (v : View) → ((l : Lock) → Contains v.locks l → IsMarked v l) → HasUnfit v → HoldsNoObject v
unfit_lacks v marked unfit = record { lock = unfit.lock; held = unfit.held; none = no_object_at v unfit.lock (marked unfit.lock unfit.held) unfit.past }
