-- What a call made and has lies apart, once at an offset: so it does where objects are freed, and new ones made, one after another.
use Rattle.std.proofs.Common.{◌≡◌, ◌≢◌, ⊎_elim, inl, inr, ℕ, ◌≤◌, ◌||◌, Bool, true, false, not, List, [], ◌∷◌, ◌++◌, refl, sym, ◌∙◌, ap, subst}
use Rattle.std.specs.List.{Contains, filter, list_any}
use Rattle.std.proofs.lemmas.Bool.{cases_Bool, cond-false, cond-true, eq-eqb, eqb-true, false_from_ne_true, false≢true, or_from}
use Rattle.std.proofs.lemmas.List.Elements.{Contains-append_left, Contains-append_right, Contains-push_cases}
use Rattle.std.proofs.lemmas.List.Folds.{Any-from_list_any, list_any-from_Any}
use Rattle.pm_image.proofs.Members.{only_member}
use Rattle.pm_objects.specs.declared.ids.Oid.{Oid}
use Rattle.solo_model.specs.Bytes.{is_among}
use Rattle.solo_model.proofs.Made.{among_else}
use Rattle.solo_crash.specs.CallBlocks.{CallBlocks, NewObject, block_of, is_at, with_all_freed, with_freed, with_made}
use Rattle.solo_crash.specs.HeapChanges.{AreDisjoint}
use Rattle.solo_crash.proofs.ManyObjects.{AreOnce}
use Rattle.solo_crash.proofs.NewPlaces.{apart_offsets}
use Rattle.solo_crash.proofs.NewStay.{before_made, news_in}
use Rattle.solo_crash.proofs.OnceMade.{alone_there, left_elsewhere, made_beside, member_kept, once_kept, once_more}

-- what the call made and has is at none of the offsets that are gone, once at each, and lies apart from the rest and from what it dropped
pub record LiesApartIn (b : CallBlocks) : Type 0 where
  pub kept : (n : NewObject) → Contains b.made n → (is_among b.freed n.off || list_any (is_at n.off) b.dropped) ≡ false
  pub once : AreOnce b.made
  pub apart_new : (n m : NewObject) → Contains b.made n → Contains b.made m → n.off ≢ m.off → AreDisjoint (block_of n) (block_of m)
  pub apart_gone : (n m : NewObject) → Contains b.made n → Contains b.dropped m → AreDisjoint (block_of n) (block_of m)

pub made_there : (news : List NewObject) (n : NewObject) → Contains news n → list_any (is_at n.off) news ≡ true
made_there news n there = list_any-from_Any (is_at n.off) news (there.0, n, there.1, there.2, eq-eqb n.off n.off refl)

-- ---- one that the call made is freed

module _ (b : CallBlocks) (f : LiesApartIn b) (n : NewObject) (there : Contains b.made n) where
  abbrev pub others_left : NewObject → Bool
  others_left m = not (is_at n.off m)

  abbrev pub without : CallBlocks
  without = record b { made = filter others_left b.made; dropped = b.dropped ++ n ∷ [] }

  is_made : list_any (is_at n.off) b.made ≡ true
  is_made = made_there b.made n there

  pub left : (m : NewObject) → Contains (filter others_left b.made) m → Contains b.made m × (m.off ≢ n.off)
  left m is = let part = member_kept others_left b.made m is in (part.0, left_elsewhere n.off m part.1)

  pub left_apart : LiesApartIn without
  left_apart = record {
    kept = λ m is. (λ j. is_among b.freed m.off || made_beside n m.off b.dropped (left m is).1 j) ∙ f.kept m (left m is).0;
    once = once_kept others_left b.made f.once;
    apart_new = λ m k is too. f.apart_new m k (left m is).0 (left k too).0;
    apart_gone = λ m k is gone. ⊎_elim
        (λ (before : Contains b.dropped k). f.apart_gone m k (left m is).0 before)
        (λ (now : n ≡ k). subst (λ (x : NewObject). AreDisjoint (block_of m) (block_of x)) now (f.apart_new m n (left m is).0 there (left m is).1))
        (Contains-push_cases b.dropped n k gone);
  }

  pub is_without : without ≡ with_freed n.off b
  is_without = (sym (cond-true (list_any (is_at n.off) b.made) (record b { made = filter others_left b.made; dropped = b.dropped ++ filter (is_at n.off) b.made }) (record b { freed = b.freed ++ n.off ∷ [] }) is_made
      ∙ ap (λ (ns : List NewObject). let c : CallBlocks = record b { made = filter others_left b.made; dropped = b.dropped ++ ns } in c) (alone_there b.made n f.once there)))

-- ---- one that it found is freed

module _ (b : CallBlocks) (f : LiesApartIn b) (off : ℕ) (found : list_any (is_at off) b.made ≡ false) where
  abbrev pub and_freed : CallBlocks
  and_freed = record b { freed = b.freed ++ off ∷ [] }

  pub elsewhere : (n : NewObject) → Contains b.made n → n.off ≢ off
  elsewhere n there same = false≢true (sym found ∙ (ap (λ (o : ℕ). list_any (is_at o) b.made) (sym same) ∙ made_there b.made n there))

  pub freed_apart : LiesApartIn and_freed
  freed_apart = record {
    kept = λ n there. ap (λ (t : Bool). t || list_any (is_at n.off) b.dropped) (among_else b.freed off n.off (elsewhere n there)) ∙ f.kept n there;
    once = f.once;
    apart_new = f.apart_new;
    apart_gone = f.apart_gone;
  }

  pub is_and_freed : and_freed ≡ with_freed off b
  is_and_freed = sym (cond-false (list_any (is_at off) b.made) (record b { made = filter (λ n. not (is_at off n)) b.made; dropped = b.dropped ++ filter (is_at off) b.made }) and_freed found)

-- ---- objects are freed

pub released_apart : (off : ℕ) (b : CallBlocks) → LiesApartIn b → LiesApartIn (with_freed off b)
released_apart off b f = ⊎_elim
    (λ (made : list_any (is_at off) b.made ≡ true).
    let t = Any-from_list_any (is_at off) b.made made in
    subst (λ (o : ℕ). LiesApartIn (with_freed o b)) (eqb-true t.1.off off t.4) (subst LiesApartIn (is_without b f t.1 (t.0, t.2, t.3)) (left_apart b f t.1 (t.0, t.2, t.3))))
    (λ (found : list_any (is_at off) b.made ≡ false). subst LiesApartIn (is_and_freed b f off found) (freed_apart b f off found))
    (cases_Bool (list_any (is_at off) b.made))

pub all_released_apart : (ids : List Oid) (b : CallBlocks) → LiesApartIn b → LiesApartIn (with_all_freed ids b)
all_released_apart [] b f = f
all_released_apart (id ∷ ids) b f = all_released_apart ids (with_freed id.off b) (released_apart id.off b f)

-- ---- one is made

-- the object may be made: its block lies apart from those of what the call made, whether it has that or freed it again, and nothing that it freed was there
pub record MayBeMade (b : CallBlocks) (n : NewObject) : Type 0 where
  pub behind : 64 ≤ n.off
  pub apart : (m : NewObject) → Contains (news_in b) m → AreDisjoint (block_of n) (block_of m)
  pub unfreed : is_among b.freed n.off ≡ false

turned : (n m : NewObject) → AreDisjoint (block_of n) (block_of m) → AreDisjoint (block_of m) (block_of n)
turned n m (inl before) = inr before
turned n m (inr behind) = inl behind

none_where : (b : CallBlocks) (n : NewObject) → MayBeMade b n → (news : List NewObject) → ((m : NewObject) → Contains news m → Contains (news_in b) m) → list_any (is_at n.off) news ≡ false
none_where b n may news within = false_from_ne_true (list_any (is_at n.off) news) (λ is.
    let t = Any-from_list_any (is_at n.off) news is in
    apart_offsets n t.1 may.behind (may.apart t.1 (within t.1 (t.0, t.2, t.3))) (eqb-true t.1.off n.off t.4))

pub none_made_there : (b : CallBlocks) (n : NewObject) → MayBeMade b n → list_any (is_at n.off) b.made ≡ false
none_made_there b n may = none_where b n may b.made (λ m there. Contains-append_left b.made b.dropped m there)

pub none_dropped_there : (b : CallBlocks) (n : NewObject) → MayBeMade b n → list_any (is_at n.off) b.dropped ≡ false
none_dropped_there b n may = none_where b n may b.dropped (λ m there. Contains-append_right b.made b.dropped m there)

-- so the next may be, which lies apart from it
pub may_be_next : (b : CallBlocks) (n m : NewObject) → AreDisjoint (block_of m) (block_of n) → MayBeMade b m → MayBeMade (with_made n b) m
may_be_next b n m apart may = record {
  behind = may.behind;
  apart = λ k there. ⊎_elim
      (λ (before : Contains (news_in b) k). may.apart k before)
      (λ (here : Contains (n ∷ []) k). subst (λ (x : NewObject). AreDisjoint (block_of m) (block_of x)) (only_member n k here) apart)
      (before_made n b k there);
  unfreed = may.unfreed;
}

module _ (b : CallBlocks) (f : LiesApartIn b) (new : NewObject) (may : MayBeMade b new) where
  pub made_cases : {P : NewObject → Type 0} (n : NewObject) → Contains (b.made ++ new ∷ []) n → ((m : NewObject) → Contains b.made m → P m) → P new → P n
  made_cases {P = P} n there before here =
      ⊎_elim (λ (was : Contains b.made n). before n was) (λ (same : new ≡ n). subst P same here) (Contains-push_cases b.made new n there)

  pub not_at : (n : NewObject) → Contains b.made n → n.off ≢ new.off
  not_at n there = apart_offsets new n may.behind (may.apart n (Contains-append_left b.made b.dropped n there))

  pub more_apart : LiesApartIn (with_made new b)
  more_apart = record {
    kept = λ n there. made_cases {P = λ (m : NewObject). (is_among b.freed m.off || list_any (is_at m.off) b.dropped) ≡ false} n there f.kept
        (or_from (is_among b.freed new.off) (list_any (is_at new.off) b.dropped) may.unfreed (none_dropped_there b new may));
    once = once_more b.made new f.once (none_made_there b new may);
    apart_new = λ n m there too differ. ⊎_elim
        (λ (was : Contains b.made n). ⊎_elim
        (λ (also : Contains b.made m). f.apart_new n m was also differ)
        (λ (same : new ≡ m). subst (λ (x : NewObject). AreDisjoint (block_of n) (block_of x)) same (turned new n (may.apart n (Contains-append_left b.made b.dropped n was))))
        (Contains-push_cases b.made new m too))
        (λ (same : new ≡ n). ⊎_elim
        (λ (also : Contains b.made m). subst (λ (x : NewObject). AreDisjoint (block_of x) (block_of m)) same (may.apart m (Contains-append_left b.made b.dropped m also)))
        (λ (here : new ≡ m). absurd (differ (ap (λ (x : NewObject). x.off) (sym same ∙ here))))
        (Contains-push_cases b.made new m too))
        (Contains-push_cases b.made new n there);
    apart_gone = λ n m there gone. made_cases {P = λ (x : NewObject). AreDisjoint (block_of x) (block_of m)} n there (λ k was. f.apart_gone k m was gone)
        (may.apart m (Contains-append_right b.made b.dropped m gone));
  }
