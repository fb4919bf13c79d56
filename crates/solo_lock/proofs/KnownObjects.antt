-- The sizes of the objects under a lane's locks are looked at, one after another.
use Rattle.std.proofs.Common.{◌≡◌, ◌≢◌, ⊎_elim, ℕ, zero, suc, ◌+◌, ◌-◌, ◌*◌, ◌/◌, ◌^◌, ◌<◌, ◌≤◌, Bool, true, false, cond, leb, ltb, ◌&&◌, ◌||◌, Contains, List, [], ◌∷◌, map, get_or, length, slice_index, Option, Some, refl, sym, ap, ◌∙◌, subst, arith}
use Rattle.std.specs.Int.{div_ceil}
use Rattle.std.specs.List.{list_any}
use Rattle.std.proofs.Math.ListN.{get_or-map}
use Rattle.std.proofs.Math.Nat.{eq-or-lt_of_le}
use Rattle.std.proofs.lemmas.Bool.{and_from, cond-true, false≢true, le-leb, lt-ltb, or_left, or_right}
use Rattle.std.proofs.lemmas.List.{get_or_default, get_or-set_other, get_or-set_same, length-map}
use Rattle.std.proofs.lemmas.List.Elements.{Contains-append_right}
use Rattle.std.proofs.lemmas.List.Folds.{list_any_at}
use Rattle.std.specs.Prelude.{unwrap_or}
use Rattle.solo_view.specs.Area.{is_in_area}
use Rattle.solo_view.specs.Blocks.{block_at, is_chunk}
use Rattle.solo_view.specs.Founds.{FoundAlone}
use Rattle.solo_view.specs.Held.{is_guarded, is_held, is_reserved, is_under, is_under_found}
use Rattle.solo_view.specs.Steps.Step.{Load}
use Rattle.solo_view.specs.View.{View, Lock}
use Rattle.solo_view.specs.Views.{after, with_block}
use Rattle.solo_world.specs.Lanes.{lock_of}
use Rattle.solo_world.specs.declared.lane.HeldLock.{HeldLock}
use Rattle.solo_lock.proofs.Allocations.{block_beside, chunk_at, size_beside, size_marks_none}
use Rattle.solo_lock.proofs.FoundUnder.{map_none}
use Rattle.solo_lock.proofs.Leads.{led_same}
use Rattle.solo_lock.proofs.OnlyLooking.{looks_at, looks_at_nothing, looks_then}
use Rattle.solo_lock.proofs.PlannedLocks.{all_at}
use Rattle.solo_lock.specs.Finding.{FindsObject, IsHeldBy, KnowsObjects, OnlyLooks}
use Rattle.solo_lock.specs.Plans.{IsChunkLine, Rises}
use Rattle.solo_lock.specs.Locking.{no_lock}

pub rises_at : (locks : List HeldLock) (k i : ℕ) → Rises locks → k < i → i < length locks → (get_or locks k no_lock).line < (get_or locks i no_lock).line
unfolding Rises
rises_at [] k i rises less low = absurd (omega (arith, low))
rises_at (l ∷ locks) zero zero rises less low = absurd (omega (arith, less))
rises_at (l ∷ locks) zero (suc i) rises less low = all_at (λ (k : HeldLock). l.line < k.line) locks i (omega (arith, low)) rises.0
rises_at (l ∷ locks) (suc k) zero rises less low = absurd (omega (arith, less))
rises_at (l ∷ locks) (suc k) (suc i) rises less low = rises_at locks k i rises.1 (omega (arith, less)) (omega (arith, low))

-- under the first so many locks is an object that fits, and its size is known
pub record KnowsFirst (at : View → Type 0) (v : View) (locks : List HeldLock) (i : ℕ) : Type 0 where
  pub view : View
  pub looks : OnlyLooks v view
  pub there : at view
  pub locks_are : view.locks ≡ v.locks
  pub blocks : (line : ℕ) → block_at view.lanes view.words line ≡ block_at v.lanes v.words line
  pub objects : (k : ℕ) → k < i → FindsObject view (lock_of (get_or locks k no_lock))

pub knows_none : (at : View → Type 0) (v : View) (locks : List HeldLock) → at v → KnowsFirst at v locks 0
knows_none at v locks there = record { view = v; looks = looks_at_nothing v; there = there; locks_are = refl; blocks = λ line. refl; objects = λ k low. absurd (omega (arith, low)) }

module _ (v : View) (locks : List HeldLock) (is : IsHeldBy v locks) (i : ℕ) (low : i < length locks) (at : View → Type 0) (first : KnowsFirst at v locks i) where
  abbrev held : HeldLock
  held = get_or locks i no_lock

  abbrev word : ℕ
  word = 8 * held.line + 1

  abbrev m : View
  m = first.view

  chunk : IsChunkLine v.lanes v.zones held
  chunk = all_at (IsChunkLine v.lanes v.zones) locks i low is.chunks

  same_lanes : m.lanes ≡ v.lanes
  same_lanes = ap (λ (u : View). u.lanes) first.looks.same

  size_m : length m.words ≡ length v.words
  size_m = (led_same v m first.looks.led).size

  pub word_inside : word < length m.words
  word_inside = let n = size_m in let size = is.size in let line = chunk.1 in omega (arith, n, size, line)

  pub word_fits : word < 2 ^ 64
  word_fits = let line = chunk.1 in let lanes = is.lanes_few in let zones = is.zones_few in omega (arith, line, lanes, zones)

  here : Contains v.locks (lock_of held)
  here = subst (λ (ls : List Lock). Contains ls (lock_of held)) is.held (i, (let n = length-map locks lock_of in omega (arith, n, low)), get_or-map lock_of locks i held ∙ ap lock_of (get_or_default locks i held no_lock low))

  -- no block under a lock
  pub knows_no_block : ((lines : ℕ) → held.block ≢ Some lines) → KnowsObjects at v false
  knows_no_block none = record {
    view = m;
    looks = first.looks;
    there = first.there;
    locks = first.locks_are;
    blocks = first.blocks;
    objects = λ no. absurd (false≢true no);
    unfit = λ is. record { lock = lock_of held; held = subst (λ (ls : List Lock). Contains ls (lock_of held)) (sym first.locks_are) here; past = λ lines some. absurd (none lines some) };
  }

  word_behind : 512 * (1 + 2 * m.lanes) ≤ word
  word_behind = let c = chunk_at v.lanes (held.line / 64) chunk.0 in let p = c.page_is in let e = same_lanes in omega (arith, p, e)

  module _ (x : ℕ) (found : FoundAlone m (Load word x)) where
    abbrev w : View
    w = after m (Load word x)

    pub looks : OnlyLooks v w
    looks = looks_then v m w first.looks (looks_at m word x word_inside word_behind found)

    locks_same : w.locks ≡ v.locks
    locks_same =
        ap (λ lanes. map (with_block lanes w.words word) m.locks) same_lanes
        ∙ map_none (with_block v.lanes w.words word) m.locks (size_marks_none v.lanes held.line chunk.0 w.words)
        ∙ first.locks_are

    blocks_same : (line : ℕ) → block_at w.lanes w.words line ≡ block_at v.lanes v.words line
    blocks_same line = block_beside m.lanes m.words word x line (size_beside m.lanes held.line (ap (λ n. is_chunk n (held.line / 64)) same_lanes ∙ chunk.0) (line / 64)) ∙ first.blocks line

    size_is : slice_index w.words word ≡ x
    size_is = get_or-set_same m.words word x 0 word_inside

    -- an object that does not fit
    pub knows_not : (lines : ℕ) → held.block ≡ Some lines → lines ≤ div_ceil x 64 → (new : View → Type 0) → new w → KnowsObjects new v false
    knows_not lines block most new there = record {
      view = w;
      looks = looks;
      there = there;
      locks = locks_same;
      blocks = blocks_same;
      objects = λ no. absurd (false≢true no);
      unfit = λ always. record {
        lock = lock_of held;
        held = subst (λ (ls : List Lock). Contains ls (lock_of held)) (sym locks_same) here;
        past = λ n some. (let same : lines ≡ n = ap (λ (o : Option ℕ). unwrap_or o 0) (sym block ∙ some) in let e = size_is in omega (arith, same, e, most));
      };
    }

    module _ (lines : ℕ) (block : held.block ≡ Some lines) (fits : div_ceil x 64 < lines) where
      under : is_under word (lock_of held) ≡ true
      under =
          ap (λ b. is_under_found held.line b word) block
          ∙ and_from (leb (8 * held.line) word && ltb word (8 * (held.line + lines))) (is_guarded (word - 8 * held.line))
          (and_from (leb (8 * held.line) word) (ltb word (8 * (held.line + lines))) (le-leb (8 * held.line) word (omega arith)) (lt-ltb word (8 * (held.line + lines)) (omega (arith, fits))))
          (ap is_guarded (let e : word - 8 * held.line ≡ 1 = omega arith in e))

      held_so : is_held m word ≡ true
      held_so =
          let there : Contains m.locks (lock_of held) = subst (λ (ls : List Lock). Contains ls (lock_of held)) (sym first.locks_are) here in
          or_left (is_in_area m.lane word || list_any (is_under word) m.locks) (is_reserved m word)
          (or_right (is_in_area m.lane word) (list_any (is_under word) m.locks) (list_any_at (is_under word) m.locks there.0 (lock_of held) there.1 (ap (is_under word) there.2 ∙ under)))

      known_now : Contains w.known word
      known_now = subst (λ (ws : List ℕ). Contains ws word) (sym (cond-true (is_held m word) (word ∷ m.known) m.known held_so)) (0, omega arith, refl)

      keeps_known : (u : ℕ) → Contains m.known u → Contains w.known u
      keeps_known u there = more (is_held m word) where
        more : (b : Bool) → Contains (cond b (word ∷ m.known) m.known) u
        more true = Contains-append_right (word ∷ []) m.known u there
        more false = there

      pub knows_more : (new : View → Type 0) → new w → KnowsFirst new v locks (i + 1)
      knows_more new there = record {
        view = w;
        looks = looks;
        there = there;
        locks_are = locks_same;
        blocks = blocks_same;
        objects = λ k below. ⊎_elim
            (λ (this : k ≡ i). subst (λ j. FindsObject w (lock_of (get_or locks j no_lock))) (sym this) (record {
              lines = lines;
              block = block;
              known = known_now;
              fits = (let e = size_is in omega (arith, e, fits));
            }))
            (λ (front : k < i).
            let f : FindsObject m (lock_of (get_or locks k no_lock)) = first.objects k front in
            let less = rises_at locks k i is.rises front low in
            record {
              lines = f.lines;
              block = f.block;
              known = keeps_known _ f.known;
              fits = (let e = get_or-set_other m.words word (8 * (get_or locks k no_lock).line + 1) x 0 (λ same. omega (arith, same, less)) in let most = f.fits in omega (arith, e, most));
            })
            (eq-or-lt_of_le (let e : k ≤ i = omega (arith, below) in e));
      }

-- all of them
pub knows_all : (at : View → Type 0) (v : View) (locks : List HeldLock) (i : ℕ) → map lock_of locks ≡ v.locks → length locks ≤ i → KnowsFirst at v locks i → KnowsObjects at v true
knows_all at v locks i held past first = record {
  view = first.view;
  looks = first.looks;
  there = first.there;
  locks = first.locks_are;
  blocks = first.blocks;
  unfit = λ no. absurd (false≢true (sym no));
  objects = λ always l there.
      let t : Contains (map lock_of locks) l = subst (λ (ls : List Lock). Contains ls l) (first.locks_are ∙ sym held) there in
      let n = length-map locks lock_of in
      let low = t.1 in
      let so : lock_of (get_or locks t.0 no_lock) ≡ l = sym (get_or-map lock_of locks t.0 no_lock) ∙ get_or_default (map lock_of locks) t.0 (lock_of no_lock) l low ∙ t.2 in
      subst (FindsObject first.view) so (first.objects t.0 (omega (arith, low, n, past)));
}
