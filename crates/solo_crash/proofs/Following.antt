-- The lists of a call follow the model's transaction where it frees objects and makes new ones, one after another: the pool is the one before with what was made,
-- and without what was freed, and what was made lies apart.
use Rattle.std.proofs.Common.{◌≡◌, ◌≢◌, ⊎_elim, ℕ, ◌||◌, true, false, not, eqb, List, [], ◌∷◌, ◌++◌, length, map, Some, None, sym, ◌∙◌, ap, subst}
use Rattle.std.specs.List.{Contains, filter, list_any}
use Rattle.std.specs.List.Sorted.{IsStrictlyIncreasing}
use Rattle.std.proofs.lemmas.Bool.{cases_Bool, cases_eq, cond-false, cond-true, eq-eqb, eqb-true, false≢true, or_left, or_parts}
use Rattle.std.proofs.lemmas.List.{map-append}
use Rattle.std.proofs.lemmas.List.Folds.{Any-from_list_any, list_any-append}
use Rattle.pm_objects.specs.Pool.{object_at, offsets}
use Rattle.pm_objects.specs.declared.ids.Oid.{Oid}
use Rattle.pm_objects.specs.declared.pool.Object.{Object}
use Rattle.pm_objects.specs.declared.pool.PoolView.{PoolView}
use Rattle.solo_model.specs.Bytes.{is_among}
use Rattle.solo_model.specs.NewObjects.{pool_without, with_object, without_object}
use Rattle.solo_model.specs.Actions.{Reservation, object_reserved}
use Rattle.solo_model.specs.Transaction.{Transaction, all_released, made_at, released}
use Rattle.solo_model.proofs.Made.{among_else, among_more}
use Rattle.solo_model.proofs.ObjectsByOffset.{fewer_elsewhere, fewer_rise, fewer_there, more_elsewhere, more_rise, more_there}
use Rattle.solo_crash.specs.CallBlocks.{CallBlocks, NewObject, is_at, reserved_object, with_all_freed, with_freed, with_made}
use Rattle.solo_crash.specs.OpenCall.{TracksBlocks, place_and_size}
use Rattle.solo_crash.proofs.CallBlocks.{any_map}
use Rattle.solo_crash.proofs.LyingApart.{LiesApartIn, MayBeMade, and_freed, elsewhere, freed_apart, is_and_freed, is_without, left, left_apart, made_cases, made_there, more_apart, none_made_there, not_at, without}
use Rattle.solo_crash.proofs.OnceMade.{made_beside, made_without, object_alone, offsets_without}

-- the transaction's pool is this one with what the call made, as that is, and without what it freed
pub record Follows (as_made : NewObject → Object) (base : PoolView) (tx : Transaction) (b : CallBlocks) : Type 0 where
  pub fixed : tx.pool ≡ record base { objects = tx.pool.objects }
  pub rising : IsStrictlyIncreasing (offsets tx.pool.objects)
  pub new : (n : NewObject) → Contains b.made n → object_at tx.pool.objects n.off ≡ Some (as_made n)
  pub long : (n : NewObject) → Contains b.made n → length (as_made n).bytes ≡ n.size
  pub gone : (off : ℕ) → is_among b.freed off ≡ true → object_at tx.pool.objects off ≡ None
  pub others : (off : ℕ) → list_any (is_at off) b.made ≡ false → is_among b.freed off ≡ false → object_at tx.pool.objects off ≡ object_at base.objects off
  pub unfound : (off : ℕ) → (list_any (is_at off) b.made || list_any (is_at off) b.dropped) ≡ true → object_at base.objects off ≡ None
  pub tracks : TracksBlocks tx b
  pub apart : LiesApartIn b

pub follows_so : {as_made : NewObject → Object} {base : PoolView} (tx other : Transaction) (b c : CallBlocks) → tx ≡ other → b ≡ c → Follows as_made base tx b → Follows as_made base other c
follows_so {as_made = of} {base = base} tx other b c same also f = subst (λ (x : CallBlocks). Follows of base other x) also (subst (λ (t : Transaction). Follows of base t b) same f)

-- it made what the call made
pub follows_made : (tx : Transaction) (b : CallBlocks) → TracksBlocks tx b → (off : ℕ) → is_among tx.made off ≡ list_any (is_at off) b.made
follows_made tx b tracks off = ap (λ (xs : List ℕ). is_among xs off) tracks.made ∙ any_map (λ other. eqb other off) (λ (n : NewObject). n.off) b.made

-- ---- one that the call made is freed

module _ (as_made : NewObject → Object) (base : PoolView) (tx : Transaction) (b : CallBlocks) (f : Follows as_made base tx b) (n : NewObject) (there : Contains b.made n) where
  abbrev gone_left : CallBlocks
  gone_left = without b f.apart n there

  abbrev left_tx : Transaction
  left_tx = record tx { pool = pool_without n.off tx.pool; made = filter (λ other. not (eqb other n.off)) tx.made; dropped = tx.dropped ++ filter (λ entry. eqb entry.0 n.off) tx.pool.objects }

  is_made : list_any (is_at n.off) b.made ≡ true
  is_made = made_there b.made n there

  -- the object is dropped as it is then: where it stands, and of its size
  dropped_one : map place_and_size (filter (λ entry. eqb entry.0 n.off) tx.pool.objects) ≡ (n.off, n.size) ∷ []
  dropped_one =
      ap (map place_and_size) (object_alone tx.pool.objects n.off (as_made n) f.rising (f.new n there))
      ∙ (λ j. (n.off, f.long n there j) ∷ [])

  left_follows : Follows as_made base left_tx gone_left
  left_follows = record {
    fixed = (λ j. let p : PoolView = record (f.fixed j) { objects = without_object n.off tx.pool.objects } in p);
    rising = fewer_rise tx.pool.objects n.off f.rising;
    new = λ m is. fewer_elsewhere tx.pool.objects n.off m.off (left b f.apart n there m is).1 ∙ f.new m (left b f.apart n there m is).0;
    long = λ m is. f.long m (left b f.apart n there m is).0;
    gone = λ off freed. ⊎_elim
        (λ (here : off ≡ n.off). subst (λ (o : ℕ). object_at (without_object n.off tx.pool.objects) o ≡ None) (sym here) (fewer_there tx.pool.objects n.off))
        (λ (other : off ≢ n.off). fewer_elsewhere tx.pool.objects n.off off other ∙ f.gone off freed)
        (cases_eq off n.off);
    others = λ off not_made kept. ⊎_elim
        (λ (here : off ≡ n.off).
        subst (λ (o : ℕ). object_at (without_object n.off tx.pool.objects) o ≡ object_at base.objects o) (sym here)
        (fewer_there tx.pool.objects n.off ∙ sym (f.unfound n.off (or_left (list_any (is_at n.off) b.made) (list_any (is_at n.off) b.dropped) is_made))))
        (λ (other : off ≢ n.off). fewer_elsewhere tx.pool.objects n.off off other ∙ f.others off (sym (made_without n.off off b.made other) ∙ not_made) kept)
        (cases_eq off n.off);
    unfound = λ off new. ⊎_elim
        (λ (here : off ≡ n.off). ap (object_at base.objects) here ∙ f.unfound n.off (or_left (list_any (is_at n.off) b.made) (list_any (is_at n.off) b.dropped) is_made))
        (λ (other : off ≢ n.off). f.unfound off ((λ j. sym (made_without n.off off b.made other) j || sym (made_beside n off b.dropped other) j) ∙ new))
        (cases_eq off n.off);
    tracks = record {
      made = ap (filter (λ other. not (eqb other n.off))) f.tracks.made ∙ offsets_without n.off b.made;
      dropped =
          map-append place_and_size tx.dropped (filter (λ entry. eqb entry.0 n.off) tx.pool.objects)
          ∙ (λ j. f.tracks.dropped j ++ dropped_one j)
          ∙ sym (map-append (λ (m : NewObject). (m.off, m.size)) b.dropped (n ∷ []));
      freed = f.tracks.freed;
    };
    apart = left_apart b f.apart n there;
  }

  -- so the transaction goes on, and the lists
  made_released : Follows as_made base (released n.off tx) (with_freed n.off b)
  made_released = follows_so left_tx (released n.off tx) gone_left (with_freed n.off b)
      (sym (cond-true (is_among tx.made n.off) left_tx (record tx { pool = pool_without n.off tx.pool; freed = tx.freed ++ n.off ∷ [] }) (follows_made tx b f.tracks n.off ∙ is_made)))
      (is_without b f.apart n there)
      left_follows

-- ---- one that it found is freed

module _ (as_made : NewObject → Object) (base : PoolView) (tx : Transaction) (b : CallBlocks) (f : Follows as_made base tx b) (off : ℕ) (found : list_any (is_at off) b.made ≡ false) where
  abbrev and_off : CallBlocks
  and_off = and_freed b f.apart off found

  abbrev freed_tx : Transaction
  freed_tx = record tx { pool = pool_without off tx.pool; freed = tx.freed ++ off ∷ [] }

  freed_follows : Follows as_made base freed_tx and_off
  freed_follows = record {
    fixed = (λ j. let p : PoolView = record (f.fixed j) { objects = without_object off tx.pool.objects } in p);
    rising = fewer_rise tx.pool.objects off f.rising;
    new = λ n there. fewer_elsewhere tx.pool.objects off n.off (elsewhere b f.apart off found n there) ∙ f.new n there;
    long = f.long;
    gone = λ o freed. ⊎_elim
        (λ (here : o ≡ off). subst (λ (x : ℕ). object_at (without_object off tx.pool.objects) x ≡ None) (sym here) (fewer_there tx.pool.objects off))
        (λ (other : o ≢ off). fewer_elsewhere tx.pool.objects off o other ∙ f.gone o (sym (among_else b.freed off o other) ∙ freed))
        (cases_eq o off);
    others = λ o not_made kept.
        let other : o ≢ off = λ same. false≢true (sym kept ∙ (ap (is_among (b.freed ++ off ∷ [])) same ∙ among_more b.freed off)) in
        fewer_elsewhere tx.pool.objects off o other ∙ f.others o not_made (sym (among_else b.freed off o other) ∙ kept);
    unfound = f.unfound;
    tracks = record { made = f.tracks.made; dropped = f.tracks.dropped; freed = ap (λ (offs : List ℕ). offs ++ off ∷ []) f.tracks.freed };
    apart = freed_apart b f.apart off found;
  }

  found_released : Follows as_made base (released off tx) (with_freed off b)
  found_released = follows_so freed_tx (released off tx) and_off (with_freed off b)
      (sym (cond-false (is_among tx.made off) (record tx { pool = pool_without off tx.pool; made = filter (λ other. not (eqb other off)) tx.made; dropped = tx.dropped ++ filter (λ entry. eqb entry.0 off) tx.pool.objects }) freed_tx (follows_made tx b f.tracks off ∙ found)))
      (is_and_freed b f.apart off found)
      freed_follows

-- ---- objects are freed

pub released_follows : (as_made : NewObject → Object) (base : PoolView) (off : ℕ) (tx : Transaction) (b : CallBlocks) → Follows as_made base tx b → Follows as_made base (released off tx) (with_freed off b)
released_follows as_made base off tx b f = ⊎_elim
    (λ (made : list_any (is_at off) b.made ≡ true).
    let t = Any-from_list_any (is_at off) b.made made in
    subst (λ (o : ℕ). Follows as_made base (released o tx) (with_freed o b)) (eqb-true t.1.off off t.4) (made_released as_made base tx b f t.1 (t.0, t.2, t.3)))
    (λ (found : list_any (is_at off) b.made ≡ false). found_released as_made base tx b f off found)
    (cases_Bool (list_any (is_at off) b.made))

pub all_released_follow : (as_made : NewObject → Object) (base : PoolView) (ids : List Oid) (tx : Transaction) (b : CallBlocks) → Follows as_made base tx b → Follows as_made base (all_released ids tx) (with_all_freed ids b)
all_released_follow as_made base [] tx b f = f
all_released_follow as_made base (id ∷ ids) tx b f = all_released_follow as_made base ids (released id.off tx) (with_freed id.off b) (released_follows as_made base id.off tx b f)

-- ---- one is made

module _ (as_made : NewObject → Object) (base : PoolView) (tx : Transaction) (b : CallBlocks) (f : Follows as_made base tx b) (r : Reservation) (may : MayBeMade b (reserved_object r))
    (none : object_at base.objects r.off ≡ None) (is_it : as_made (reserved_object r) ≡ object_reserved r) where
  abbrev new : NewObject
  new = reserved_object r

  none_now : object_at tx.pool.objects r.off ≡ None
  none_now = f.others r.off (none_made_there b new may) may.unfreed ∙ none

  pub made_follows : Follows as_made base (made_at r.off (object_reserved r) tx) (with_made new b)
  made_follows = record {
    fixed = (λ j. let p : PoolView = record (f.fixed j) { objects = with_object r.off (object_reserved r) tx.pool.objects } in p);
    rising = more_rise tx.pool.objects r.off (object_reserved r) f.rising none_now;
    new = λ n there. made_cases b f.apart new may {P = λ (m : NewObject). object_at (with_object r.off (object_reserved r) tx.pool.objects) m.off ≡ Some (as_made m)} n there
        (λ m was. more_elsewhere tx.pool.objects r.off m.off (object_reserved r) (not_at b f.apart new may m was) ∙ f.new m was)
        (more_there tx.pool.objects r.off (object_reserved r) none_now ∙ ap (λ (o : Object). Some o) (sym is_it));
    long = λ n there. made_cases b f.apart new may {P = λ (m : NewObject). length (as_made m).bytes ≡ m.size} n there f.long (ap (λ (o : Object). length o.bytes) is_it);
    gone = λ off freed. more_elsewhere tx.pool.objects r.off off (object_reserved r) (λ same. false≢true (sym may.unfreed ∙ (ap (is_among b.freed) (sym same) ∙ freed))) ∙ f.gone off freed;
    others = λ off not_made kept.
        let parts = or_parts (list_any (is_at off) b.made) (eqb r.off off || false) (sym (list_any-append (is_at off) b.made (new ∷ [])) ∙ not_made) in
        more_elsewhere tx.pool.objects r.off off (object_reserved r) (λ same. false≢true (sym (or_parts (eqb r.off off) false parts.1).0 ∙ eq-eqb r.off off (sym same)))
        ∙ f.others off parts.0 kept;
    unfound = λ off is. ⊎_elim
        (λ (here : off ≡ r.off). ap (object_at base.objects) here ∙ none)
        (λ (other : off ≢ r.off). f.unfound off ((λ j. sym (made_beside new off b.made other) j || list_any (is_at off) b.dropped) ∙ is))
        (cases_eq off r.off);
    tracks = record {
      made = ap (λ (offs : List ℕ). offs ++ r.off ∷ []) f.tracks.made ∙ sym (map-append (λ (m : NewObject). m.off) b.made (new ∷ []));
      dropped = f.tracks.dropped;
      freed = f.tracks.freed;
    };
    apart = more_apart b f.apart new may;
  }
