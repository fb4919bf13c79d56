-- Steps on the heap's volatile words keep the world: occupancy words are read, bits of them are got and given back, and zones' locks are.
use Rattle.std.proofs.Common.{◌≡◌, ◌≢◌, ◌⊎◌, inl, inr, ⊎_elim, ℕ, ◌+◌, ◌<◌, Bool, true, false, not, eqb, List, [], ◌∷◌, ◌++◌, get_or, refl, sym, ap, ◌∙◌, subst, arith, eq-eqb, ne_eqb}
use Rattle.std.specs.Int.{bit_at}
use Rattle.std.specs.List.{filter, list_any}
use Rattle.std.proofs.lemmas.Bool.{cases_eq, eqb-true, false≢true, not-true, not_from_false, or_cases, or_left, or_right}
use Rattle.std.proofs.lemmas.List.Folds.{Any-from_list_any, list_any-append}
use Rattle.solo_view.specs.declared.occ.Occ.{Occ}
use Rattle.solo_view.specs.Steps.{Step}
use Rattle.solo_view.specs.Steps.Step.{Occupied, Occupy, Vacate, ZoneGive, ZoneTry}
use Rattle.solo_view.specs.View.{View}
use Rattle.solo_view.specs.Views.{occ_in, runs_with, zones_with}
use Rattle.solo_world.specs.Fits.{LaneFits}
use Rattle.solo_world.specs.Heap.{Heap, SomeHasTaken, SomeHoldsZone, has_taken, holds_zone, heap_words}
use Rattle.solo_world.specs.History.{Entry, Flies, settled}
use Rattle.solo_world.specs.Laws.{Keeps, with_view}
use Rattle.solo_world.specs.Memory.{Becomes, IsSame, Memory, Location, occ_at}
use Rattle.solo_world.specs.Memory.Location.{LockWord, PoolWord, ZoneLock}
use Rattle.solo_world.specs.Opening.{Opening}
use Rattle.solo_world.specs.World.{Views, World, is_low}
use Rattle.solo_world.proofs.Frame.{view_all, view_here}
use Rattle.solo_world.proofs.Heaps.{all_same, heap_still}
use Rattle.solo_world.proofs.Locations.{IsPlain, one_lock, other_zone_lock, plain_lock, plain_pool, zone_apart}
use Rattle.solo_world.proofs.Reheld.{reheld, reheld_fits, reholds}
use Rattle.solo_world.proofs.StepGive.{list_any-filter, filter-passed}
use Rattle.solo_world.proofs.StepTake.{list_any-left, low_before}
use Rattle.solo_world.proofs.Vacated.{list_any-less}
use Rattle.solo_world.proofs.Worlds.{own}
use Rattle.solo_world.proofs.StepOccupy.{gets}
use Rattle.solo_world.proofs.StepVacate.{gives_back}

module _ (o : Opening) (old : Memory) (views : Views) (log : List Entry) (decided : ℕ → Bool) (world : World o old views log decided) (k : ℕ) (inside : k < o.lanes) (v : View) (is : views k ≡ v) where
  mine : LaneFits o old (settled o log decided) (Flies log decided k) k v
  mine = own o old views log decided world k inside v is

  abbrev heap : Heap o (heap_words o old) old views
  heap = world.heap

  -- what the lane has, by its number and by its view
  had : (at : Occ) (bit : ℕ) → has_taken v at bit ≡ true → has_taken (views k) at bit ≡ true
  had at bit e = ap (λ u. has_taken u at bit) is ∙ e

  holds : (zone : ℕ) → holds_zone v zone ≡ true → holds_zone (views k) zone ≡ true
  holds zone e = ap (λ u. holds_zone u zone) is ∙ e

  -- ---- an occupancy word is read

  abbrev read_view : Occ → ℕ → View
  read_view at found = reheld v v.known (runs_with at found v.run_words) (zones_with at found v.zone_words) v.reserved v.freed v.zone_locks (v.seen ++ Occupied at found ∷ [])

  reads : (new : Memory) (at : Occ) (found : ℕ) → IsSame old new → World o new (with_view views k (read_view at found)) log decided
  reads new at found same =
      let v' : View = read_view at found in
      reholds o old views log decided world k inside v is new v.known (runs_with at found v.run_words) (zones_with at found v.zone_words) v.reserved v.freed v.zone_locks (v.seen ++ Occupied at found ∷ [])
      (λ l plain. same l)
      (reheld_fits v v.known (runs_with at found v.run_words) (zones_with at found v.zone_words) v.reserved v.freed v.zone_locks (v.seen ++ Occupied at found ∷ []) o old new (settled o log decided) (Flies log decided k) k
      (λ w. same (PoolWord w)) (λ line. same (LockWord line)) (λ w there. there) (λ w there. mine.picture.held w there) (λ w written known. known) (λ c there own_word. own_word)
      (record { of_pool = mine.blocks.of_pool; small = mine.blocks.small; free = mine.blocks.free; described = mine.blocks.described; freed = mine.blocks.freed }) mine)
      (low_before v (Occupied at found) refl) (heap_still o (heap_words o old) old new views k v v' is world.heap (all_same old new same) (record { lanes = refl; reserved = refl; freed = refl; zones = refl }))

  -- ---- bits of it are tried, and were not free

  abbrev tried_view : Occ → ℕ → View
  tried_view at bits = reheld v v.known (runs_with at (occ_in v at) v.run_words) (zones_with at (occ_in v at) v.zone_words) v.reserved v.freed v.zone_locks (v.seen ++ Occupy at bits false ∷ [])

  tries : (new : Memory) (at : Occ) (bits : ℕ) → IsSame old new → World o new (with_view views k (tried_view at bits)) log decided
  tries new at bits same =
      let v' : View = tried_view at bits in
      reholds o old views log decided world k inside v is new v.known (runs_with at (occ_in v at) v.run_words) (zones_with at (occ_in v at) v.zone_words) v.reserved v.freed v.zone_locks (v.seen ++ Occupy at bits false ∷ [])
      (λ l plain. same l)
      (reheld_fits v v.known (runs_with at (occ_in v at) v.run_words) (zones_with at (occ_in v at) v.zone_words) v.reserved v.freed v.zone_locks (v.seen ++ Occupy at bits false ∷ []) o old new (settled o log decided) (Flies log decided k) k
      (λ w. same (PoolWord w)) (λ line. same (LockWord line)) (λ w there. there) (λ w there. mine.picture.held w there) (λ w written known. known) (λ c there own_word. own_word)
      (record { of_pool = mine.blocks.of_pool; small = mine.blocks.small; free = mine.blocks.free; described = mine.blocks.described; freed = mine.blocks.freed }) mine)
      (low_before v (Occupy at bits false) refl) (heap_still o (heap_words o old) old new views k v v' is world.heap (all_same old new same) (record { lanes = refl; reserved = refl; freed = refl; zones = refl }))

  -- ---- a zone's lock is tried, and given back

  abbrev zoned_view : List ℕ → Step → View
  zoned_view zones s = reheld v v.known v.run_words v.zone_words v.reserved v.freed zones (v.seen ++ s ∷ [])

  zones_change : (new : Memory) (zones : List ℕ) (s : Step) → is_low s ≡ false → ((l : Location) → IsPlain l → new l ≡ old l) → Heap o (heap_words o old) new (with_view views k (zoned_view zones s)) → World o new (with_view views k (zoned_view zones s)) log decided
  zones_change new zones s other same heap_then =
      reholds o old views log decided world k inside v is new v.known v.run_words v.zone_words v.reserved v.freed zones (v.seen ++ s ∷ []) same
      (reheld_fits v v.known v.run_words v.zone_words v.reserved v.freed zones (v.seen ++ s ∷ []) o old new (settled o log decided) (Flies log decided k) k
      (λ w. same (PoolWord w) (plain_pool w)) (λ line. same (LockWord line) (plain_lock line)) (λ w there. there) (λ w there. mine.picture.held w there) (λ w written known. known) (λ c there own_word. own_word)
      (record { of_pool = mine.blocks.of_pool; small = mine.blocks.small; free = mine.blocks.free; described = mine.blocks.described; freed = mine.blocks.freed }) mine)
      (low_before v s other) heap_then

  -- what is had of blocks is as before
  module _ (new : Memory) (zones : List ℕ) (s : Step) (words : (at : Occ) → new (occ_at at) ≡ old (occ_at at))
      (locked : (j zone : ℕ) → j < o.lanes → holds_zone (with_view views k (zoned_view zones s) j) zone ≡ true → new (ZoneLock zone) ≡ j + 1)
      (unlocked : (zone : ℕ) → (new (ZoneLock zone) ≡ 0) ⊎ SomeHoldsZone (with_view views k (zoned_view zones s)) o.lanes new zone) where
    same_before : (j : ℕ) (other : Occ) (bit : ℕ) → has_taken (with_view views k (zoned_view zones s) j) other bit ≡ true → has_taken (views j) other bit ≡ true
    same_before j other bit = view_all (λ i u. has_taken u other bit ≡ true → has_taken (views i) other bit ≡ true) views k (zoned_view zones s) (had other bit) j (λ differ e. e)

    zoned_heap : Heap o (heap_words o old) new (with_view views k (zoned_view zones s))
    zoned_heap = record {
      set = λ other bit of low one. ⊎_elim inl (λ (t : SomeHasTaken views o.lanes other bit). inr (
        t.0,
        t.1,
        view_all (λ i u. has_taken (views i) other bit ≡ true → has_taken u other bit ≡ true) views k (zoned_view zones s)
            (λ e. ap (λ u. has_taken u other bit) (sym is) ∙ e) t.0 (λ differ e. e) t.2,
      )) (heap.set other bit of low (ap (λ n. bit_at n bit) (sym (words other)) ∙ one));
      taken = λ other bit of low is_so. ap (λ n. bit_at n bit) (words other) ∙ heap.taken other bit of low is_so;
      held = λ j other bit low of small has. ap (λ n. bit_at n bit) (words other) ∙ heap.held j other bit low of small (same_before j other bit has);
      apart = λ i j other bit low high one two. heap.apart i j other bit low high (same_before i other bit one) (same_before j other bit two);
      locked = locked;
      unlocked = unlocked;
    }

  -- the lock is won
  takes_zone : (new : Memory) (zone : ℕ) → Becomes (ZoneLock zone) (k + 1) old new → old (ZoneLock zone) ≡ 0 → World o new (with_view views k (zoned_view (v.zone_locks ++ zone ∷ []) (ZoneTry zone true))) log decided
  takes_zone new zone moves free =
      let zones : List ℕ = v.zone_locks ++ zone ∷ [] in
      let v' : View = zoned_view zones (ZoneTry zone true) in
      zones_change new zones (ZoneTry zone true) refl (λ l plain. moves.0 l (other_zone_lock zone l plain))
      (zoned_heap new zones (ZoneTry zone true) (λ at. moves.0 (occ_at at) (zone_apart at zone))
      (λ j other low. view_all (λ i u. i < o.lanes → holds_zone u other ≡ true → new (ZoneLock other) ≡ i + 1) views k v'
      (λ low' e. ⊎_elim (λ (same : other ≡ zone). ap (λ z. new (ZoneLock z)) same ∙ moves.1)
      (λ (differ : other ≢ zone). moves.0 (ZoneLock other) (one_lock other zone differ) ∙ heap.locked k other inside (holds other (before_zone other differ e))) (cases_eq other zone))
      j (λ differ low' e. ⊎_elim (λ (same : other ≡ zone). absurd (let word = heap.locked j other low' e in let zero : old (ZoneLock other) ≡ 0 = ap (λ z. old (ZoneLock z)) same ∙ free in omega (arith, word, zero)))
      (λ (apart : other ≢ zone). moves.0 (ZoneLock other) (one_lock other zone apart) ∙ heap.locked j other low' e) (cases_eq other zone)) low)
      (λ other. ⊎_elim
      (λ (same : other ≡ zone). inr (k, inside, ap (λ z. new (ZoneLock z)) same ∙ moves.1, ap (λ u. holds_zone u other) (view_here views k v') ∙ new_zone other same))
      (λ (differ : other ≢ zone). ⊎_elim (λ (none : old (ZoneLock other) ≡ 0). inl (moves.0 (ZoneLock other) (one_lock other zone differ) ∙ none))
      (λ (t : SomeHoldsZone views o.lanes old other). inr (
        t.0,
        t.1,
        moves.0 (ZoneLock other) (one_lock other zone differ) ∙ t.2,
        view_all (λ i u. holds_zone (views i) other ≡ true → holds_zone u other ≡ true) views k v' (λ e. list_any-left (λ held. eqb held other) v.zone_locks (zone ∷ []) (ap (λ u. holds_zone u other) (sym is) ∙ e)) t.0 (λ apart e. e) t.3,
      )) (heap.unlocked other))
      (cases_eq other zone)))
    where
      before_zone : (other : ℕ) → other ≢ zone → list_any (λ held. eqb held other) (v.zone_locks ++ zone ∷ []) ≡ true → holds_zone v other ≡ true
      before_zone other differ e =
          ⊎_elim (λ (before : holds_zone v other ≡ true). before)
          (λ (last : list_any (λ held. eqb held other) (zone ∷ []) ≡ true). ⊎_elim (λ (this : eqb zone other ≡ true). absurd (differ (sym (eqb-true zone other this)))) (λ (none : false ≡ true). absurd (false≢true none)) (or_cases (eqb zone other) false last))
          (or_cases (holds_zone v other) (list_any (λ held. eqb held other) (zone ∷ [])) (sym (list_any-append (λ held. eqb held other) v.zone_locks (zone ∷ [])) ∙ e))

      new_zone : (other : ℕ) → other ≡ zone → list_any (λ held. eqb held other) (v.zone_locks ++ zone ∷ []) ≡ true
      new_zone other same = list_any-append (λ held. eqb held other) v.zone_locks (zone ∷ []) ∙ or_right (holds_zone v other) (list_any (λ held. eqb held other) (zone ∷ [])) (or_left (eqb zone other) false (eq-eqb zone other (sym same)))

  -- it is refused
  misses_zone : (new : Memory) (zone : ℕ) → IsSame old new → World o new (with_view views k (zoned_view v.zone_locks (ZoneTry zone false))) log decided
  misses_zone new zone same =
      zones_change new v.zone_locks (ZoneTry zone false) refl (λ l plain. same l)
      (heap_still o (heap_words o old) old new views k v (zoned_view v.zone_locks (ZoneTry zone false)) is world.heap (all_same old new same) (record { lanes = refl; reserved = refl; freed = refl; zones = refl }))

  -- it is given back
  gives_zone : (new : Memory) (zone : ℕ) → Becomes (ZoneLock zone) 0 old new → holds_zone v zone ≡ true → World o new (with_view views k (zoned_view (filter (λ other. not (eqb other zone)) v.zone_locks) (ZoneGive zone))) log decided
  gives_zone new zone moves held =
      let zones : List ℕ = filter (λ other. not (eqb other zone)) v.zone_locks in
      let v' : View = zoned_view zones (ZoneGive zone) in
      let word : old (ZoneLock zone) ≡ k + 1 = heap.locked k zone inside (holds zone held) in
      zones_change new zones (ZoneGive zone) refl (λ l plain. moves.0 l (other_zone_lock zone l plain))
      (zoned_heap new zones (ZoneGive zone) (λ at. moves.0 (occ_at at) (zone_apart at zone))
      (λ j other low. view_all (λ i u. i < o.lanes → holds_zone u other ≡ true → new (ZoneLock other) ≡ i + 1) views k v'
      (λ low' e. ⊎_elim (λ (same : other ≡ zone). absurd (not_left v.zone_locks other same e))
      (λ (differ : other ≢ zone). moves.0 (ZoneLock other) (one_lock other zone differ) ∙ heap.locked k other inside (holds other (left_before v.zone_locks other e))) (cases_eq other zone))
      j (λ differ low' e. ⊎_elim (λ (same : other ≡ zone). absurd (differ (let theirs = heap.locked j other low' e in let here : old (ZoneLock other) ≡ k + 1 = ap (λ z. old (ZoneLock z)) same ∙ word in omega (arith, theirs, here))))
      (λ (apart : other ≢ zone). moves.0 (ZoneLock other) (one_lock other zone apart) ∙ heap.locked j other low' e) (cases_eq other zone)) low)
      (λ other. ⊎_elim
      (λ (same : other ≡ zone). inl (ap (λ z. new (ZoneLock z)) same ∙ moves.1))
      (λ (differ : other ≢ zone). ⊎_elim (λ (none : old (ZoneLock other) ≡ 0). inl (moves.0 (ZoneLock other) (one_lock other zone differ) ∙ none))
      (λ (t : SomeHoldsZone views o.lanes old other). inr (
        t.0,
        t.1,
        moves.0 (ZoneLock other) (one_lock other zone differ) ∙ t.2,
        view_all (λ i u. holds_zone (views i) other ≡ true → holds_zone u other ≡ true) views k v' (λ e. left_still v.zone_locks other differ (ap (λ u. holds_zone u other) (sym is) ∙ e)) t.0 (λ apart e. e) t.3,
      )) (heap.unlocked other))
      (cases_eq other zone)))
    where
      passes : ℕ → Bool
      passes other = not (eqb other zone)

      left_before : (zones : List ℕ) (other : ℕ) → list_any (λ held. eqb held other) (filter (λ z. not (eqb z zone)) zones) ≡ true → list_any (λ held. eqb held other) zones ≡ true
      left_before zones other e = list_any-less (λ held. eqb held other) (λ z. not (eqb z zone)) zones e

      not_left : (zones : List ℕ) (other : ℕ) → other ≡ zone → list_any (λ held. eqb held other) (filter (λ z. not (eqb z zone)) zones) ≡ true → ⊥
      not_left zones other same e =
          let t = Any-from_list_any (λ held. eqb held other) (filter (λ z. not (eqb z zone)) zones) e in
          let passed = filter-passed (λ z. not (eqb z zone)) zones t.1 (t.0, t.2, subst (λ y. get_or (filter (λ z. not (eqb z zone)) zones) t.0 y ≡ y) refl t.3) in
          false≢true (sym (not-true (eqb t.1 zone) passed) ∙ (ap (eqb t.1) (sym same) ∙ t.4))

      left_still : (zones : List ℕ) (other : ℕ) → other ≢ zone → list_any (λ held. eqb held other) zones ≡ true → list_any (λ held. eqb held other) (filter (λ z. not (eqb z zone)) zones) ≡ true
      left_still zones other differ e = list_any-filter (λ held. eqb held other) (λ z. not (eqb z zone)) zones
          (λ n d low this. not_from_false (eqb (get_or zones n d) zone) (ne_eqb (get_or zones n d) zone (λ same. differ (sym (eqb-true (get_or zones n d) other this) ∙ same)))) e

pub sees_occupancy : (at : Occ) (found : ℕ) → Keeps (Occupied at found)
sees_occupancy at found o old new views log decided k v world inside is lawful moves = (reads o old views log decided world k inside v is new at found moves.0, tt)

pub occupies : (at : Occ) (bits : ℕ) (won : Bool) → Keeps (Occupy at bits won)
occupies at bits true o old new views log decided k v world inside is lawful moves = (gets o old views log decided world k inside v is new at bits moves.0 moves.1 lawful.allowed, tt)
occupies at bits false o old new views log decided k v world inside is lawful moves = (tries o old views log decided world k inside v is new at bits moves.0, tt)

pub vacates : (at : Occ) (bits : ℕ) → Keeps (Vacate at bits)
vacates at bits o old new views log decided k v world inside is lawful moves = (gives_back o old views log decided world k inside v is new at bits moves lawful.allowed, tt)

pub tries_zone : (zone : ℕ) (won : Bool) → Keeps (ZoneTry zone won)
tries_zone zone true o old new views log decided k v world inside is lawful moves = (takes_zone o old views log decided world k inside v is new zone moves.0 moves.1, tt)
tries_zone zone false o old new views log decided k v world inside is lawful moves = (misses_zone o old views log decided world k inside v is new zone moves.0, tt)

pub gives_zone_back : (zone : ℕ) → Keeps (ZoneGive zone)
gives_zone_back zone o old new views log decided k v world inside is lawful moves = (gives_zone o old views log decided world k inside v is new zone moves lawful.allowed.held, tt)
