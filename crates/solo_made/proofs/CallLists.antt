-- A call's lists beside those that the plain model has of the call.
use Rattle.std.proofs.Common.{◌≡◌, ⊎_elim, ℕ, ◌++◌, ◌&&◌, ◌||◌, Bool, true, false, not, cond, eqb, List, [], ◌∷◌, map, Some, refl, sym, ap, ◌∙◌, subst}
use Rattle.std.specs.List.{All, filter, find, list_any}
use Rattle.std.specs.Option.{option_map}
use Rattle.std.proofs.lemmas.Bool.{cases_eq, eq-eqb, eqb-true, false≢true, ne_eqb}
use Rattle.std.proofs.lemmas.List.{map-append}
use Rattle.std.proofs.lemmas.List.Elements.{All-head, All-tail}
use Rattle.std.proofs.lemmas.List.Folds.{list_any-append}
use Rattle.solo_model.specs.Bytes.{is_among}
use Rattle.solo_crash.specs.CallBlocks.{CallBlocks, NewObject, is_at, no_blocks, with_freed}
use Rattle.solo_made.specs.declared.objects.Freed.{Freed}
use Rattle.solo_made.specs.declared.objects.Made.{Made}
use Rattle.solo_made.specs.Made.{BlockLists, FitsPages, IsOffsetIn, ListsBlocks, begins_at, has_object, new_of}

-- what the lists have at an offset, the model's have
any_made : (off : ℕ) (ms : List Made) → list_any (is_at off) (map new_of ms) ≡ list_any (begins_at off) ms
any_made off [] = refl
any_made off (m ∷ ms) = ap (λ (b : Bool). eqb m.off off || b) (any_made off ms)

any_freed : (off : ℕ) (fs : List Freed) → is_among (map (λ (f : Freed). f.off) fs) off ≡ list_any (λ (f : Freed). eqb f.off off) fs
any_freed off [] = refl
any_freed off (f ∷ fs) = ap (λ (b : Bool). eqb f.off off || b) (any_freed off fs)

found_made : (off : ℕ) (ms : List Made) → option_map new_of (find (begins_at off) ms) ≡ find (is_at off) (map new_of ms)
found_made off [] = refl
found_made off (m ∷ ms) = go (eqb m.off off) (found_made off ms)
  where
    go : (b : Bool) → option_map new_of (find (begins_at off) ms) ≡ find (is_at off) (map new_of ms)
        → option_map new_of (cond b (Some m) (find (begins_at off) ms)) ≡ cond b (Some (new_of m)) (find (is_at off) (map new_of ms))
    go true later = refl
    go false later = later

kept_made : (off : ℕ) (ms : List Made) → map new_of (filter (λ (m : Made). not (begins_at off m)) ms) ≡ filter (λ (n : NewObject). not (is_at off n)) (map new_of ms)
kept_made off [] = refl
kept_made off (m ∷ ms) = go (not (eqb m.off off)) (kept_made off ms)
  where
    go : (b : Bool) → map new_of (filter (λ (x : Made). not (begins_at off x)) ms) ≡ filter (λ (n : NewObject). not (is_at off n)) (map new_of ms)
        → map new_of (cond b (m ∷ filter (λ (x : Made). not (begins_at off x)) ms) (filter (λ (x : Made). not (begins_at off x)) ms))
        ≡ cond b (new_of m ∷ filter (λ (n : NewObject). not (is_at off n)) (map new_of ms)) (filter (λ (n : NewObject). not (is_at off n)) (map new_of ms))
    go true later = ap (λ (ns : List NewObject). new_of m ∷ ns) later
    go false later = later

pub made_is : (b : BlockLists) (call : CallBlocks) (off : ℕ) → ListsBlocks b call → list_any (begins_at off) b.made ≡ list_any (is_at off) call.made
made_is b call off lists = sym (any_made off b.made) ∙ ap (list_any (is_at off)) lists.made

pub freed_is : (b : BlockLists) (call : CallBlocks) (off : ℕ) → ListsBlocks b call → list_any (λ (f : Freed). eqb f.off off) b.freed ≡ is_among call.freed off
freed_is b call off lists = sym (any_freed off b.freed) ∙ ap (λ (offs : List ℕ). is_among offs off) lists.freed

pub found_is : (b : BlockLists) (call : CallBlocks) (off : ℕ) → ListsBlocks b call → option_map new_of (find (begins_at off) b.made) ≡ find (is_at off) call.made
found_is b call off lists = found_made off b.made ∙ ap (find (is_at off)) lists.made

-- what is at one offset of those at another
same_off : (off other : ℕ) (x : Bool) → (eqb off other || (eqb other off && x)) ≡ (eqb other off && true)
same_off off other x = ⊎_elim
    (λ (same : other ≡ off). (λ j. eqb-of off other (sym same) j || (eqb-of other off same j && x)) ∙ sym (ap (λ (b : Bool). b && true) (eqb-of other off same)))
    (λ (apart : other ≡ off → ⊥). (λ j. ne_eqb off other (λ e. apart (sym e)) j || (ne_eqb other off apart j && x)) ∙ sym (ap (λ (b : Bool). b && true) (ne_eqb other off apart)))
    (cases_eq other off)
  where
    eqb-of : (a b : ℕ) → a ≡ b → eqb a b ≡ true
    eqb-of a b is = eq-eqb a b is

only_there : (off other : ℕ) (ns : List NewObject) → list_any (is_at other) (filter (is_at off) ns) ≡ (eqb other off && list_any (is_at off) ns)
only_there off other [] = none (eqb other off)
  where
    none : (b : Bool) → false ≡ (b && false)
    none true = refl
    none false = refl
only_there off other (n ∷ ns) = go (eqb n.off off) refl (only_there off other ns)
  where
    go : (b : Bool) → eqb n.off off ≡ b → list_any (is_at other) (filter (is_at off) ns) ≡ (eqb other off && list_any (is_at off) ns)
        → list_any (is_at other) (cond b (n ∷ filter (is_at off) ns) (filter (is_at off) ns)) ≡ (eqb other off && (b || list_any (is_at off) ns))
    go true at later =
        (λ j. eqb (eqb-true n.off off at j) other || later j)
        ∙ same_off off other (list_any (is_at off) ns)
    go false at later = later

-- the object that the call made and frees is no more among those that it has, and is dropped
pub lists_dropped : (b : BlockLists) (call : CallBlocks) (off : ℕ) (made : List Made) (dropped : List ℕ) → ListsBlocks b call → list_any (begins_at off) b.made ≡ true
    → made ≡ filter (λ (m : Made). not (begins_at off m)) b.made → ((other : ℕ) → has_object dropped other ≡ (has_object b.dropped other || eqb other off))
    → ListsBlocks (record { made = made; freed = b.freed; dropped = dropped }) (with_freed off call)
lists_dropped b call off made dropped lists has is put = subst (ListsBlocks (record { made = made; freed = b.freed; dropped = dropped })) (sym freed) (record {
  made = ap (map new_of) is ∙ (kept_made off b.made ∙ ap (filter (λ (n : NewObject). not (is_at off n))) lists.made);
  freed = lists.freed;
  dropped = λ other. put other ∙ ((λ j. lists.dropped other j || at_off other j) ∙ sym (list_any-append (is_at other) call.dropped (filter (is_at off) call.made)));
})
  where
    had : list_any (is_at off) call.made ≡ true
    had = sym (made_is b call off lists) ∙ has

    at_off : (other : ℕ) → eqb other off ≡ list_any (is_at other) (filter (is_at off) call.made)
    at_off other = sym (only_there off other call.made ∙ (ap (λ (t : Bool). eqb other off && t) had ∙ and_true (eqb other off)))
      where
        and_true : (t : Bool) → (t && true) ≡ t
        and_true true = refl
        and_true false = refl

    freed : with_freed off call ≡ record call { made = filter (λ (n : NewObject). not (is_at off n)) call.made; dropped = call.dropped ++ filter (is_at off) call.made }
    freed = ap (λ (t : Bool). cond t (record call { made = filter (λ (n : NewObject). not (is_at off n)) call.made; dropped = call.dropped ++ filter (is_at off) call.made }) (record call { freed = call.freed ++ off ∷ [] })) had

-- any other is behind those that it found and freed
pub lists_freed : (b : BlockLists) (call : CallBlocks) (f : Freed) (freed : List Freed) → ListsBlocks b call → list_any (begins_at f.off) b.made ≡ false → freed ≡ b.freed ++ f ∷ []
    → ListsBlocks (record { made = b.made; freed = freed; dropped = b.dropped }) (with_freed f.off call)
lists_freed b call f freed lists has is = subst (ListsBlocks (record { made = b.made; freed = freed; dropped = b.dropped })) (sym with_it) (record {
  made = lists.made;
  freed = ap (map (λ (x : Freed). x.off)) is ∙ (map-append (λ (x : Freed). x.off) b.freed (f ∷ []) ∙ ap (λ (offs : List ℕ). offs ++ f.off ∷ []) lists.freed);
  dropped = lists.dropped;
})
  where
    with_it : with_freed f.off call ≡ record call { freed = call.freed ++ f.off ∷ [] }
    with_it = ap (λ (t : Bool). cond t (record call { made = filter (λ (n : NewObject). not (is_at f.off n)) call.made; dropped = call.dropped ++ filter (is_at f.off) call.made }) (record call { freed = call.freed ++ f.off ∷ [] }))
        (sym (made_is b call f.off lists) ∙ has)

-- where an object of the list is, one may be
pub made_fits : (pages off : ℕ) (ms : List Made) → list_any (begins_at off) ms ≡ true → All (FitsPages pages) ms → IsOffsetIn pages off
made_fits pages off [] has fit = absurd (false≢true has)
made_fits pages off (m ∷ ms) has fit = go (eqb m.off off) refl has (λ there. made_fits pages off ms there (All-tail (FitsPages pages) m ms fit))
  where
    go : (b : Bool) → eqb m.off off ≡ b → (b || list_any (begins_at off) ms) ≡ true → (list_any (begins_at off) ms ≡ true → IsOffsetIn pages off) → IsOffsetIn pages off
    go true at there later = subst (IsOffsetIn pages) (eqb-true m.off off at) (All-head (FitsPages pages) m ms fit).place
    go false at there later = later there

-- where no object of the list is there, all are elsewhere
pub none_there : (off : ℕ) (ms : List Made) → list_any (begins_at off) ms ≡ false → ms ≡ filter (λ (m : Made). not (begins_at off m)) ms
none_there off [] none = refl
none_there off (m ∷ ms) none = go (eqb m.off off) none (none_there off ms)
  where
    go : (b : Bool) → (b || list_any (begins_at off) ms) ≡ false → (list_any (begins_at off) ms ≡ false → ms ≡ filter (λ (x : Made). not (begins_at off x)) ms)
        → m ∷ ms ≡ cond (not b) (m ∷ filter (λ (x : Made). not (begins_at off x)) ms) (filter (λ (x : Made). not (begins_at off x)) ms)
    go true missing later = absurd (false≢true (sym missing))
    go false missing later = ap (λ (xs : List Made). m ∷ xs) (later missing)

-- the lists of a call that made and freed nothing are empty
pub none_made : (b : BlockLists) → ListsBlocks b no_blocks → b.made ≡ []
none_made b lists = none b.made lists.made
  where
    none : (ms : List Made) → map new_of ms ≡ [] → ms ≡ []
    none [] is = refl
    none (m ∷ ms) is = absurd cc

pub none_freed : (b : BlockLists) → ListsBlocks b no_blocks → b.freed ≡ []
none_freed b lists = none b.freed lists.freed
  where
    none : (fs : List Freed) → map (λ (f : Freed). f.off) fs ≡ [] → fs ≡ []
    none [] is = refl
    none (f ∷ fs) is = absurd cc
