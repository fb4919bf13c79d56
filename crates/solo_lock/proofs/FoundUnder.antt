-- What a chunk's descriptor and bitmap say is noted under each lock there.
use Rattle.std.proofs.Common.{◌≡◌, ◌≢◌, ⊎_elim, inr, ℕ, zero, suc, ◌+◌, ◌*◌, ◌/◌, ◌%◌, ◌<◌, ◌≤◌, Bool, true, false, cond, eqb, Contains, List, [], ◌∷◌, ◌++◌, map, take, get_or, length, length-set, slice_index, refl, sym, ap, ◌∙◌, subst, arith}
use Rattle.std.specs.List.{refill}
use Rattle.std.proofs.lemmas.Bool.{cases_eq}
use Rattle.std.proofs.lemmas.List.{get_or-set_other, get_or-set_same, length-map, map-append, take_more}
use Rattle.std.proofs.lemmas.List.Elements.{Contains-append_cases}
use Rattle.solo_crash.specs.OpenCall.{lock_of as model_lock}
use Rattle.solo_view.specs.Blocks.{bitmap_word, descriptor_word, is_chunk, is_run}
use Rattle.solo_view.specs.Founds.{FoundAlone}
use Rattle.solo_view.specs.Steps.Step.{Load}
use Rattle.solo_view.specs.View.{View, Lock}
use Rattle.solo_view.specs.Views.{after, with_block}
use Rattle.solo_world.specs.Lanes.{lock_of}
use Rattle.solo_world.specs.declared.lane.HeldLock.{HeldLock}
use Rattle.solo_world.specs.declared.lane.Lane.{Lane}
use Rattle.solo_lock.proofs.Allocations.{IsBeside, bitmap_apart, bitmap_beside, bitmap_marks, bitmap_tells, chunk_at, descriptor_beside, descriptor_marks, descriptor_tells, empty_run, marked_lock, run_marks_none, tells}
use Rattle.solo_lock.proofs.Leads.{led_none, led_then}
use Rattle.solo_lock.proofs.MarkedPages.{page_kept, page_noted}
use Rattle.solo_lock.proofs.OnlyLooking.{begun_looks, looks_at, looks_then}
use Rattle.solo_lock.proofs.PlannedLocks.{rewritten}
use Rattle.solo_lock.specs.Begun.{IsBegun}
use Rattle.solo_lock.specs.Finding.{HasLooked, OnlyLooks, block_in, marked}
use Rattle.solo_lock.specs.Lacking.{IsPageMarked, pages_of}

-- maps that agree
maps_same : {X Y : Type 0} (f g : X → Y) (xs : List X) → ((x : X) → f x ≡ g x) → map f xs ≡ map g xs
maps_same f g [] same = refl
maps_same f g (x ∷ xs) same = (λ i. same x i ∷ maps_same f g xs same i)

pub map_none : (f : Lock → Lock) (locks : List Lock) → ((l : Lock) → f l ≡ l) → map f locks ≡ locks
map_none f [] same = refl
map_none f (l ∷ locks) same = (λ i. same l i ∷ map_none f locks same i)

-- the locks that are written over with what they are marked
pub marked_items : (page d b : ℕ) (items now new : List HeldLock) → now ≡ items → new ≡ map (marked page d b) now → refill (length items) items new ≡ map (marked page d b) items
marked_items page d b items now new same is =
    let so : new ≡ map (marked page d b) items = is ∙ ap (map (marked page d b)) same in
    rewritten items new (ap length so ∙ length-map items (marked page d b)) ∙ so

-- the lane's locks are marked as the view's are
marked_so : (page d b : ℕ) (h : HeldLock) → lock_of (marked page d b h) ≡ marked_lock page d b (lock_of h)
marked_so page d b h = at (eqb (h.line / 64) page) where
  at : (t : Bool) → lock_of (cond t (record h { block = block_in d b (h.line % 64) }) h) ≡ cond t (record (lock_of h) { block = block_in d b (h.line % 64) }) (lock_of h)
  at true = refl
  at false = refl

all_marked : (page d b : ℕ) (locks : List HeldLock) → map lock_of (map (marked page d b) locks) ≡ map (marked_lock page d b) (map lock_of locks)
all_marked page d b [] = refl
all_marked page d b (h ∷ locks) = (λ i. marked_so page d b h i ∷ all_marked page d b locks i)

marked_line : (page d b : ℕ) (l : Lock) → (marked_lock page d b l).line ≡ l.line
marked_line page d b l = at (eqb (l.line / 64) page) where
  at : (t : Bool) → (cond t (record l { block = block_in d b (l.line % 64) }) l).line ≡ l.line
  at true = refl
  at false = refl

marked_model : (page d b : ℕ) (l : Lock) → model_lock (marked_lock page d b l) ≡ model_lock l
marked_model page d b l = at (eqb (l.line / 64) page) where
  at : (t : Bool) → model_lock (cond t (record l { block = block_in d b (l.line % 64) }) l) ≡ model_lock l
  at true = refl
  at false = refl

marked_lines : (page d b : ℕ) (locks : List Lock) → map (λ (l : Lock). l.line) (map (marked_lock page d b) locks) ≡ map (λ (l : Lock). l.line) locks
marked_lines page d b [] = refl
marked_lines page d b (l ∷ locks) = (λ i. marked_line page d b l i ∷ marked_lines page d b locks i)

marked_models : (page d b : ℕ) (locks : List Lock) → map model_lock (map (marked_lock page d b) locks) ≡ map model_lock locks
marked_models page d b [] = refl
marked_models page d b (l ∷ locks) = (λ i. marked_model page d b l i ∷ marked_models page d b locks i)

-- the one page of a look
one_page : (page p : ℕ) → Contains (page ∷ []) p → page ≡ p
one_page page p (zero, low, is) = is
one_page page p (suc k, low, is) = absurd (omega (arith, low))

-- the pages of a plan, as far as one more lock
pub pages_more : (plan : List HeldLock) (i : ℕ) (d : HeldLock) → i < length plan → pages_of (take (i + 1) plan) ≡ pages_of (take i plan) ++ (get_or plan i d).line / 64 ∷ []
pages_more plan i d low = ap pages_of (take_more plan i d low) ∙ map-append (λ (l : HeldLock). l.line / 64) (take i plan) (get_or plan i d ∷ [])

module _ {M : Type 0} (at : M → View → Type 0) (lane : Lane M) (v : View) (is : IsBegun at lane v) (page : ℕ) (chunk : is_chunk lane.shape.lanes page ≡ true) (inside : page < 1 + 2 * lane.shape.lanes + 65 * lane.shape.zones) where
  abbrev pub word : ℕ
  word = descriptor_word lane.shape.lanes page

  -- the descriptor lies in the zones
  pub word_inside : word < length v.words
  word_inside = let c = chunk_at lane.shape.lanes page chunk in let p = c.page_is in let few = c.few in let some = c.some in let w = c.descriptor in let size = is.seen.shape.size in omega (arith, p, few, some, w, size, inside)

  word_behind : 512 * (1 + 2 * v.lanes) ≤ word
  word_behind = let c = chunk_at lane.shape.lanes page chunk in let some = c.some in let w = c.descriptor in let lanes = is.seen.shape.lanes in omega (arith, some, w, lanes)

  pub bitmap_inside : 512 * page < length v.words
  bitmap_inside = let size = is.seen.shape.size in omega (arith, size, inside)

  bitmap_behind : 512 * (1 + 2 * v.lanes) ≤ 512 * page
  bitmap_behind = let c = chunk_at lane.shape.lanes page chunk in let p = c.page_is in let lanes = is.seen.shape.lanes in omega (arith, p, lanes)

  -- a page that is marked, in a view where the other pages are as they were
  module _ (w : View) (marked : IsPageMarked w page) (kept : (p : ℕ) → p ≢ page → IsPageMarked v p → IsPageMarked w p) where
    this_marked : (p : ℕ) → Contains (page ∷ []) p → IsPageMarked w p
    this_marked p there = subst (IsPageMarked w) (one_page page p there) marked

    all_kept : (p : ℕ) → IsPageMarked v p → IsPageMarked w p
    all_kept p was = ⊎_elim (λ (same : p ≡ page). subst (IsPageMarked w) (sym same) marked) (λ (apart : p ≢ page). kept p apart was) (cases_eq p page)

  by_view : (P : ℕ → Type 0) → P lane.shape.lanes → P v.lanes
  by_view P so = subst P (sym is.seen.shape.lanes) so

  module _ (d : ℕ) (found : FoundAlone v (Load word d)) where
    abbrev pub m : View
    m = after v (Load word d)

    first : OnlyLooks v m
    first = looks_at v word d word_inside word_behind found

    there : slice_index m.words word ≡ d
    there = get_or-set_same v.words word d 0 word_inside

    others_kept : (p : ℕ) → p ≢ page → IsPageMarked v p → IsPageMarked m p
    others_kept p apart = page_kept v word d p (by_view (λ n. IsBeside n p word) (descriptor_beside lane.shape.lanes page chunk p apart))

    -- the view's locks, by its own number of lanes
    abbrev by_lanes : ℕ → List ℕ → ℕ → List Lock → List Lock
    by_lanes lanes words w locks = map (with_block lanes words w) locks

    module _ (b : ℕ) (no_run : is_run d ≡ false) (new : Lane M) (memory : at new.memory m) (locks : new.locks.items ≡ map (marked page d b) lane.locks.items) (fields : new ≡ record lane { memory = new.memory; locks = new.locks }) where
      locks_marked : m.locks ≡ map (marked_lock page d b) v.locks
      locks_marked =
          ap (λ lanes. by_lanes lanes m.words word v.locks) is.seen.shape.lanes
          ∙ maps_same (with_block lane.shape.lanes m.words word) (marked_lock page d b) v.locks (descriptor_marks lane.shape.lanes page chunk m.words d there b no_run)

      no_run_marked : IsPageMarked m page
      no_run_marked = page_noted v word d page (by_view (λ n. tells n m.words page word ≡ true) (descriptor_tells lane.shape.lanes page m.words chunk (ap is_run there ∙ no_run)))

      pub chunk_looked : HasLooked at new v (page ∷ [])
      chunk_looked = record {
        view = m;
        led = first.led;
        begun = begun_looks at lane new v m is first memory (ap (map lock_of) locks ∙ all_marked page d b lane.locks.items ∙ ap (map (marked_lock page d b)) is.seen.locks ∙ sym locks_marked) (ap (map (λ (l : Lock). l.line)) locks_marked ∙ marked_lines page d b v.locks) fields;
        lines = ap (map (λ (l : Lock). l.line)) locks_marked ∙ marked_lines page d b v.locks;
        locks = ap (map model_lock) locks_marked ∙ marked_models page d b v.locks;
        entries = refl;
        marked = this_marked m no_run_marked others_kept;
        keeps = all_kept m no_run_marked others_kept;
      }

    module _ (run : is_run d ≡ true) where
      locks_stay : m.locks ≡ v.locks
      locks_stay =
          ap (λ lanes. by_lanes lanes m.words word v.locks) is.seen.shape.lanes
          ∙ map_none (with_block lane.shape.lanes m.words word) v.locks (run_marks_none lane.shape.lanes page chunk m.words d there run)

      empty_marked : d / 256 ≡ 0 → IsPageMarked m page
      empty_marked none l held of_page = inr (empty_run m.lanes m.words l.line d (ap (λ q. slice_index m.words (descriptor_word m.lanes q)) of_page ∙ by_view (λ n. slice_index m.words (descriptor_word n page) ≡ d) there) run none)

      -- of a run of no lines the lane notes nothing
      pub run_looked : d / 256 ≡ 0 → (new : Lane M) → at new.memory m → new.locks.items ≡ lane.locks.items → new ≡ record lane { memory = new.memory; locks = new.locks } → HasLooked at new v (page ∷ [])
      run_looked none new memory locks fields = record {
        view = m;
        led = first.led;
        begun = begun_looks at lane new v m is first memory (ap (map lock_of) locks ∙ is.seen.locks ∙ sym locks_stay) (ap (map (λ (l : Lock). l.line)) locks_stay) fields;
        lines = ap (map (λ (l : Lock). l.line)) locks_stay;
        locks = ap (map model_lock) locks_stay;
        entries = refl;
        marked = this_marked m (empty_marked none) others_kept;
        keeps = all_kept m (empty_marked none) others_kept;
      }

      module _ (b : ℕ) (also : FoundAlone m (Load (512 * page) b)) (new : Lane M) (memory : at new.memory (after m (Load (512 * page) b))) (locks : new.locks.items ≡ map (marked page d b) lane.locks.items)
          (fields : new ≡ record lane { memory = new.memory; locks = new.locks }) where
        abbrev w : View
        w = after m (Load (512 * page) b)

        inside_m : 512 * page < length m.words
        inside_m = let n = length-set v.words word d in let low = bitmap_inside in omega (arith, n, low)

        both : OnlyLooks v w
        both = looks_then v m w first (looks_at m (512 * page) b inside_m bitmap_behind also)

        still : slice_index w.words word ≡ d
        still = get_or-set_other m.words (512 * page) word b 0 (λ same. bitmap_apart lane.shape.lanes page page chunk chunk (sym same)) ∙ there

        bitmap_there : slice_index w.words (bitmap_word page) ≡ b
        bitmap_there = get_or-set_same m.words (512 * page) b 0 inside_m

        run_locks : w.locks ≡ map (marked_lock page d b) v.locks
        run_locks =
            ap (λ lanes. by_lanes lanes w.words (512 * page) m.locks) is.seen.shape.lanes
            ∙ maps_same (with_block lane.shape.lanes w.words (bitmap_word page)) (marked_lock page d b) m.locks (bitmap_marks lane.shape.lanes page chunk w.words d still b bitmap_there run)
            ∙ ap (map (marked_lock page d b)) locks_stay

        run_marked : IsPageMarked w page
        run_marked = page_noted m (512 * page) b page (by_view (λ n. tells n w.words page (512 * page) ≡ true) (bitmap_tells lane.shape.lanes page w.words chunk (ap is_run still ∙ run)))

        others_still : (p : ℕ) → p ≢ page → IsPageMarked v p → IsPageMarked w p
        others_still p apart was = page_kept m (512 * page) b p (by_view (λ n. IsBeside n p (512 * page)) (bitmap_beside lane.shape.lanes page chunk p apart)) (others_kept p apart was)

        pub bitmap_looked : HasLooked at new v (page ∷ [])
        bitmap_looked = record {
          view = w;
          led = both.led;
          begun = begun_looks at lane new v w is both memory (ap (map lock_of) locks ∙ all_marked page d b lane.locks.items ∙ ap (map (marked_lock page d b)) is.seen.locks ∙ sym run_locks) (ap (map (λ (l : Lock). l.line)) run_locks ∙ marked_lines page d b v.locks) fields;
          lines = ap (map (λ (l : Lock). l.line)) run_locks ∙ marked_lines page d b v.locks;
          locks = ap (map model_lock) run_locks ∙ marked_models page d b v.locks;
          entries = refl;
          marked = this_marked w run_marked others_still;
          keeps = all_kept w run_marked others_still;
        }

-- one look after another
pub looked_none : {M : Type 0} (at : M → View → Type 0) (lane : Lane M) (v : View) → IsBegun at lane v → HasLooked at lane v []
looked_none at lane v is = record {
  view = v;
  led = led_none v;
  begun = is;
  lines = refl;
  locks = refl;
  entries = refl;
  marked = λ page there. absurd (let low = there.1 in omega (arith, low));
  keeps = λ page was. was;
}

pub looked_then : {M : Type 0} (at : M → View → Type 0) (lane new : Lane M) (v : View) (pages more : List ℕ) → (first : HasLooked at lane v pages) → HasLooked at new first.view more → HasLooked at new v (pages ++ more)
looked_then at lane new v pages more first second = record {
  view = second.view;
  led = led_then v first.view second.view first.led second.led;
  begun = second.begun;
  lines = second.lines ∙ first.lines;
  locks = second.locks ∙ first.locks;
  entries = second.entries ∙ first.entries;
  marked = λ page there. ⊎_elim
      (λ (before : Contains pages page). second.keeps page (first.marked page before))
      (λ (now : Contains more page). second.marked page now)
      (Contains-append_cases pages more page there);
  keeps = λ page was. second.keeps page (first.keeps page was);
}
