-- A transaction's objects are told by what it made and freed.
use Rattle.std.proofs.Common.{◌≡◌, ◌≢◌, ℕ, Bool, true, false, not, cond, eqb, ◌||◌, List, [], ◌∷◌, ◌++◌, replicate, None, Some, refl, sym, ◌∙◌, ap, eq-eqb, ne_eqb}
use Rattle.std.specs.Prelude.{IsSome}
use Rattle.std.specs.List.{filter}
use Rattle.std.proofs.lemmas.Bool.{eqb-true, or_left, or_right}
use Rattle.std.proofs.lemmas.List.Folds.{list_any-append}
use Rattle.pm_objects.specs.Pool.{Objects, object_at, offsets}
use Rattle.solo_model.specs.Bytes.{is_among}
use Rattle.solo_model.specs.NewObjects.{new_object, pool_without}
use Rattle.solo_model.specs.Transaction.{Transaction, is_dropped, is_gone, is_new, released}
use Rattle.solo_model.specs.Answers.{allocated}
use Rattle.solo_model.proofs.Objects.{present}
use Rattle.solo_model.proofs.ObjectsByOffset.{fewer_elsewhere, fewer_there, more_elsewhere, more_there}

among-append : (xs ys : List ℕ) (x : ℕ) → is_among (xs ++ ys) x ≡ (is_among xs x || is_among ys x)
among-append xs ys x = list_any-append (λ other. eqb other x) xs ys

-- one more is among them, and no other
pub among_more : (xs : List ℕ) (x : ℕ) → is_among (xs ++ x ∷ []) x ≡ true
among_more xs x = among-append xs (x ∷ []) x ∙ or_right (is_among xs x) (eqb x x || false) (or_left (eqb x x) false (eq-eqb x x refl))

or_none : (x : Bool) → (x || false) ≡ x
or_none true = refl
or_none false = refl

pub among_else : (xs : List ℕ) (x other : ℕ) → other ≢ x → is_among (xs ++ x ∷ []) other ≡ is_among xs other
among_else xs x other differ =
    among-append xs (x ∷ []) other
    ∙ (ap (λ (b : Bool). is_among xs other || (b || false)) (ne_eqb x other (λ same. differ (sym same))) ∙ or_none (is_among xs other))

-- without one, each other is among them as before
pub among_without : (xs : List ℕ) (x other : ℕ) → other ≢ x → is_among (filter (λ n. not (eqb n x)) xs) other ≡ is_among xs other
among_without [] x other differ = refl
among_without (n ∷ xs) x other differ = go (eqb n x) refl (among_without xs x other differ) where
  go : (t : Bool) → eqb n x ≡ t → is_among (filter (λ m. not (eqb m x)) xs) other ≡ is_among xs other
      → is_among (cond (not t) (n ∷ filter (λ m. not (eqb m x)) xs) (filter (λ m. not (eqb m x)) xs)) other ≡ (eqb n other || is_among xs other)
  go true is rest = rest ∙ sym (ap (λ (b : Bool). b || is_among xs other) (ne_eqb n other (λ same. differ (sym same ∙ eqb-true n x is))))
  go false is rest = ap (λ (b : Bool). eqb n other || b) rest

-- the entries at an offset have it where the objects have it, and no other
among_found : (objects : Objects) (off : ℕ) → is_among (offsets objects) off ≡ true → is_among (offsets (filter (λ entry. eqb entry.0 off) objects)) off ≡ true
among_found [] off found = found
among_found (e ∷ es) off found = go (eqb e.0 off) refl found (among_found es off) where
  go : (t : Bool) → eqb e.0 off ≡ t → (t || is_among (offsets es) off) ≡ true → (is_among (offsets es) off ≡ true → is_among (offsets (filter (λ entry. eqb entry.0 off) es)) off ≡ true)
      → is_among (offsets (cond t (e ∷ filter (λ entry. eqb entry.0 off) es) (filter (λ entry. eqb entry.0 off) es))) off ≡ true
  go true is here rest = or_left (eqb e.0 off) (is_among (offsets (filter (λ entry. eqb entry.0 off) es)) off) is
  go false is there rest = rest there

among_no_other : (objects : Objects) (off other : ℕ) → other ≢ off → is_among (offsets (filter (λ entry. eqb entry.0 off) objects)) other ≡ false
among_no_other [] off other differ = refl
among_no_other (e ∷ es) off other differ = go (eqb e.0 off) refl (among_no_other es off other differ) where
  go : (t : Bool) → eqb e.0 off ≡ t → is_among (offsets (filter (λ entry. eqb entry.0 off) es)) other ≡ false
      → is_among (offsets (cond t (e ∷ filter (λ entry. eqb entry.0 off) es) (filter (λ entry. eqb entry.0 off) es))) other ≡ false
  go true is rest = ap (λ (b : Bool). b || is_among (offsets (filter (λ entry. eqb entry.0 off) es)) other) (ne_eqb e.0 other (λ same. differ (sym same ∙ eqb-true e.0 off is))) ∙ rest
  go false is rest = rest

offsets-append : (xs ys : Objects) (x : ℕ) → is_among (offsets (xs ++ ys)) x ≡ (is_among (offsets xs) x || is_among (offsets ys) x)
offsets-append [] ys x = refl
offsets-append (e ∷ es) ys x = ap (λ (b : Bool). eqb e.0 x || b) (offsets-append es ys x) ∙ or_assoc (eqb e.0 x) (is_among (offsets es) x) (is_among (offsets ys) x) where
  or_assoc : (a b c : Bool) → (a || (b || c)) ≡ ((a || b) || c)
  or_assoc true b c = refl
  or_assoc false b c = refl

-- objects with those at an offset of others
pub dropped_stays : (dropped objects : Objects) (off x : ℕ) → is_among (offsets dropped) x ≡ true → is_among (offsets (dropped ++ filter (λ entry. eqb entry.0 off) objects)) x ≡ true
dropped_stays dropped objects off x is =
    let new : Objects = filter (λ entry. eqb entry.0 off) objects in
    offsets-append dropped new x ∙ or_left (is_among (offsets dropped) x) (is_among (offsets new) x) is

pub dropped_now : (dropped objects : Objects) (off : ℕ) → IsSome (object_at objects off) → is_among (offsets (dropped ++ filter (λ entry. eqb entry.0 off) objects)) off ≡ true
dropped_now dropped objects off there =
    let new : Objects = filter (λ entry. eqb entry.0 off) objects in
    offsets-append dropped new off ∙ or_right (is_among (offsets dropped) off) (is_among (offsets new) off) (among_found objects off (sym (present objects off) ∙ there))

dropped_else : (dropped objects : Objects) (off other : ℕ) → other ≢ off → is_among (offsets (dropped ++ filter (λ entry. eqb entry.0 off) objects)) other ≡ is_among (offsets dropped) other
dropped_else dropped objects off other differ =
    let new : Objects = filter (λ entry. eqb entry.0 off) objects in
    offsets-append dropped new other ∙ (ap (λ (b : Bool). is_among (offsets dropped) other || b) (among_no_other objects off other differ) ∙ or_none (is_among (offsets dropped) other))

module _ (tx : Transaction) (off size kind : ℕ) where
  pub made_there : object_at tx.pool.objects off ≡ None → object_at (allocated off size kind tx).pool.objects off ≡ Some (record { kind = kind; bytes = replicate size 0; members = [] })
  made_there none = more_there tx.pool.objects off (new_object kind size) none

  pub made_alone : (other : ℕ) → other ≢ off → object_at (allocated off size kind tx).pool.objects other ≡ object_at tx.pool.objects other
  made_alone other differ = more_elsewhere tx.pool.objects off other (new_object kind size) differ

  pub new_there : is_new (allocated off size kind tx) off ≡ true
  new_there = or_left (is_among (tx.made ++ off ∷ []) off) (is_dropped tx off) (among_more tx.made off)

  pub new_alone : (other : ℕ) → other ≢ off → is_new (allocated off size kind tx) other ≡ is_new tx other
  new_alone other differ = ap (λ (b : Bool). b || is_dropped tx other) (among_else tx.made off other differ)

-- a free of an object that was made in the transaction, or was not
abbrev pub released_by : Bool → ℕ → Transaction → Transaction
released_by made off tx =
    cond made
    (record tx { pool = pool_without off tx.pool; made = filter (λ other. not (eqb other off)) tx.made; dropped = tx.dropped ++ filter (λ entry. eqb entry.0 off) tx.pool.objects })
    (record tx { pool = pool_without off tx.pool; freed = tx.freed ++ off ∷ [] })

module _ (tx : Transaction) (off : ℕ) where
  pub freed_pool : (made : Bool) → (released_by made off tx).pool ≡ pool_without off tx.pool
  freed_pool true = refl
  freed_pool false = refl

  pub freed_there : object_at (released off tx).pool.objects off ≡ None
  freed_there = ap (λ pool. object_at pool.objects off) (freed_pool (is_among tx.made off)) ∙ fewer_there tx.pool.objects off

  pub freed_alone : (other : ℕ) → other ≢ off → object_at (released off tx).pool.objects other ≡ object_at tx.pool.objects other
  freed_alone other differ = ap (λ pool. object_at pool.objects other) (freed_pool (is_among tx.made off)) ∙ fewer_elsewhere tx.pool.objects off other differ

  gone_by : (made : Bool) → IsSome (object_at tx.pool.objects off) → is_gone (released_by made off tx) off ≡ true
  gone_by true there = or_right (is_among tx.freed off) (is_among (offsets (tx.dropped ++ filter (λ entry. eqb entry.0 off) tx.pool.objects)) off) (dropped_now tx.dropped tx.pool.objects off there)
  gone_by false there = or_left (is_among (tx.freed ++ off ∷ []) off) (is_dropped tx off) (among_more tx.freed off)

  pub gone_there : IsSome (object_at tx.pool.objects off) → is_gone (released off tx) off ≡ true
  gone_there = gone_by (is_among tx.made off)

  gone_else : (made : Bool) (other : ℕ) → other ≢ off → is_gone (released_by made off tx) other ≡ is_gone tx other
  gone_else true other differ = ap (λ (b : Bool). is_among tx.freed other || b) (dropped_else tx.dropped tx.pool.objects off other differ)
  gone_else false other differ = ap (λ (b : Bool). b || is_dropped tx other) (among_else tx.freed off other differ)

  pub gone_alone : (other : ℕ) → other ≢ off → is_gone (released off tx) other ≡ is_gone tx other
  gone_alone = gone_else (is_among tx.made off)

  new_else : (made : Bool) (other : ℕ) → other ≢ off → is_new (released_by made off tx) other ≡ is_new tx other
  new_else true other differ = (λ i. among_without tx.made off other differ i || dropped_else tx.dropped tx.pool.objects off other differ i)
  new_else false other differ = refl

  pub new_still : (other : ℕ) → other ≢ off → is_new (released off tx) other ≡ is_new tx other
  new_still = new_else (is_among tx.made off)
