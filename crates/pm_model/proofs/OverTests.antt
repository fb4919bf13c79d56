-- A transaction over other objects is refused alike, where they are the same at what it touches.
use Rattle.std.proofs.Common.{◌≡◌, ℕ, ◌+◌, length, Bool, true, false, eqb, ltb, Option, refl, ap}
use Rattle.std.specs.List.{list_any}
use Rattle.std.proofs.lemmas.Bool.{or_parts}
use Rattle.pm_objects.specs.declared.calls.Operation.{Operation}
use Rattle.pm_objects.specs.declared.calls.Operation.TheVariants.{AddRange, Write, Read, Increment, Free, Publish}
use Rattle.pm_objects.specs.declared.ids.Oid.{Oid}
use Rattle.pm_model.specs.Items.{Item, Items, PlainPool, is_root}
use Rattle.pm_model.specs.Blocks.{item_covers}
use Rattle.pm_model.specs.Pending.{SetWord, passes_object}
use Rattle.pm_model.specs.Transaction.{Transaction, holds}
use Rattle.pm_model.specs.Refusals.{Seen, is_listed, is_not_held, refusal_of, tests}
use Rattle.pm_model.proofs.Lists.{Each, SameTests, each_weaker, none_pass, same_any, same_first, same_tests}
use Rattle.pm_model.proofs.Edits.{mixed, mixed_in}
use Rattle.pm_model.proofs.Fitting.{held_so, listed_as, size_as, FitsTx}

module _ (here : PlainPool) (I : Items) (R : Option ℕ) (T W B : ℕ → Bool)
    (wt : (x : ℕ) → W x ≡ true → T x ≡ true)
    (same : (x : ℕ) → T x ≡ true → I x ≡ here.items x)
    (roots : (x : ℕ) → T x ≡ true → is_root R x ≡ is_root here.root x)
    (lines : (l x : ℕ) → B l ≡ true → item_covers x (I x) l ≡ item_covers x (here.items x) l) where
  abbrev there : PlainPool
  there = record here { items = I; root = R }

  abbrev mine : Transaction → Transaction
  mine tx = record tx { before = here }

  -- the transaction over the other objects
  abbrev over : Transaction → Transaction
  over tx = record tx { before = there; items = mixed T I tx.items }

  abbrev FitsHere : Transaction → Type 0
  FitsHere tx = FitsTx T W B here tx

  -- what is held is among T, to write among W
  pub writes_in : (tx : Transaction) (id : Oid) → FitsHere tx
      → is_not_held (mine tx) true id ≡ false → W id.off ≡ true
  writes_in tx id fits e = fits.held.1 id.off
      (held_so (eqb id.pool here.id) (holds tx id.off true) e)

  pub touches_in : (tx : Transaction) (write : Bool) (id : Oid) → FitsHere tx
      → is_not_held (mine tx) write id ≡ false → T id.off ≡ true
  touches_in tx true id fits e = wt id.off (writes_in tx id fits e)
  touches_in tx false id fits e = fits.held.0 id.off
      (held_so (eqb id.pool here.id) (holds tx id.off false) e)

  pub item_there : (tx : Transaction) (x : ℕ) → T x ≡ true → mixed T I tx.items x ≡ tx.items x
  item_there tx x t = mixed_in T I tx.items x t

  -- ---- refusals

  range_there : (tx : Transaction) (write : Bool) (id : Oid) (end : ℕ) → FitsHere tx
      → is_not_held (mine tx) write id ≡ false
      → ltb (size_as (mixed T I tx.items id.off)) end ≡ ltb (size_as (tx.items id.off)) end
  unfolding size_as
  range_there tx write id end fits e = ap (λ (o : Option Item). ltb (size_as o) end)
      (item_there tx id.off (touches_in tx write id fits e))

  listed_there : (tx : Transaction) (x : ℕ) → T x ≡ true
      → listed_as (mixed T I tx.items x) ≡ listed_as (tx.items x)
  listed_there tx x t = ap listed_as (item_there tx x t)

  tests_there : (seen : Seen) (tx : Transaction) (op : Operation) → FitsHere tx
      → SameTests (tests seen (over tx) op) (tests seen (mine tx) op)
  unfolding size_as listed_as
  tests_there seen tx (AddRange id at len) fits = (
    refl,
    refl,
    λ a. (
      refl,
      refl,
      λ b. (
        refl,
        refl,
        λ held. (
          refl,
          refl,
          λ c. (refl, range_there tx true id (at + len) fits held, λ d. (refl, refl, λ e. tt)),
        ),
      ),
    ),
  )
  tests_there seen tx (Write id at bytes) fits = (
    refl,
    refl,
    λ a. (
      refl,
      refl,
      λ b. (
        refl,
        refl,
        λ held. (
          refl,
          refl,
          λ c. (
            refl,
            range_there tx true id (at + length bytes) fits held,
            λ d. (refl, refl, λ e. tt),
          ),
        ),
      ),
    ),
  )
  tests_there seen tx (Read id at len) fits = (
    refl,
    refl,
    λ a. (
      refl,
      refl,
      λ b. (
        refl,
        refl,
        λ held. (
          refl,
          refl,
          λ c. (refl, range_there tx false id (at + len) fits held, λ d. tt),
        ),
      ),
    ),
  )
  tests_there seen tx (Increment id at by) fits = (
    refl,
    refl,
    λ a. (
      refl,
      refl,
      λ b. (
        refl,
        refl,
        λ held. (
          refl,
          refl,
          λ c. (
            refl,
            range_there tx false id (at + 8) fits held,
            λ d. (
              refl,
              refl,
              λ e. (
                refl,
                refl,
                λ f. (
                  refl,
                  refl,
                  λ g. (
                    refl,
                    refl,
                    λ h. (
                      refl,
                      range_there tx false id (at + 8) fits held,
                      λ i. (refl, refl, λ j. tt),
                    ),
                  ),
                ),
              ),
            ),
          ),
        ),
      ),
    ),
  )
  tests_there seen tx (Free id) fits = (
    refl,
    refl,
    λ a. (
      refl,
      refl,
      λ b. (
        refl,
        refl,
        λ held. (
          refl,
          refl,
          λ c. (
            refl,
            roots id.off (touches_in tx true id fits held),
            λ d. (
              refl,
              listed_there tx id.off (touches_in tx true id fits held),
              λ e. (refl, refl, λ f. tt),
            ),
          ),
        ),
      ),
    ),
  )
  tests_there seen tx Publish fits = (
    refl,
    refl,
    λ a. (
      refl,
      refl,
      λ b. (
        refl,
        refl,
        λ held.
            let frees : Each (λ (id : Oid). T id.off ≡ true) tx.pending.frees =
            each_weaker (λ (id : Oid). is_not_held (mine tx) true id ≡ false)
            (λ (id : Oid). T id.off ≡ true) tx.pending.frees
            (λ id e. touches_in tx true id fits e)
            (none_pass (is_not_held (mine tx) true) tx.pending.frees
            (or_parts (list_any (is_not_held (mine tx) true) tx.pending.frees)
            (list_any (λ (a : SetWord). is_not_held
            (mine tx) true a.id) tx.pending.sets) held).0) in
            let sets : Each (λ (a : SetWord). T a.id.off ≡ true) tx.pending.sets =
            each_weaker (λ (a : SetWord). is_not_held (mine tx) true a.id ≡ false)
            (λ (a : SetWord). T a.id.off ≡ true) tx.pending.sets
            (λ a e. touches_in tx true a.id fits e)
            (none_pass (λ (a : SetWord). is_not_held (mine tx) true a.id) tx.pending.sets
            (or_parts (list_any (is_not_held (mine tx) true) tx.pending.frees)
            (list_any (λ (a : SetWord). is_not_held
            (mine tx) true a.id) tx.pending.sets) held).1) in (
              refl,
              refl,
              λ c. (
                refl,
                same_any (λ (id : Oid). is_root R id.off)
                    (λ (id : Oid). is_root here.root id.off) tx.pending.frees
                    (each_weaker (λ (id : Oid). T id.off ≡ true)
                    (λ (id : Oid). is_root R id.off ≡ is_root here.root id.off) tx.pending.frees (λ id t. roots id.off t) frees),
                λ d. (
                  refl,
                  same_any (λ (id : Oid). is_listed (mixed T I tx.items) id.off)
                      (λ (id : Oid). is_listed tx.items id.off) tx.pending.frees
                      (each_weaker (λ (id : Oid). T id.off ≡ true)
                      (λ (id : Oid). is_listed
                      (mixed T I tx.items) id.off ≡ is_listed tx.items id.off) tx.pending.frees (λ id t. listed_there tx id.off t) frees),
                  λ e. (
                    refl,
                    same_any (passes_object (mixed T I tx.items))
                        (passes_object tx.items) tx.pending.sets
                        (each_weaker (λ (a : SetWord). T a.id.off ≡ true)
                        (λ (a : SetWord). passes_object
                        (mixed T I tx.items) a ≡ passes_object tx.items a) tx.pending.sets
                        (λ a t. ap (λ (o : Option Item). ltb (size_as o) (a.off + 8))
                        (item_there tx a.id.off t)) sets),
                    λ f. (refl, refl, λ g. tt),
                  ),
                ),
              ),
            ),
      ),
    ),
  )
  tests_there seen tx op fits = same_tests (tests seen (mine tx) op)

  pub refusal_there : (seen : Seen) (tx : Transaction) (op : Operation) → FitsHere tx
      → refusal_of seen (over tx) op ≡ refusal_of seen (mine tx) op
  refusal_there seen tx op fits = same_first (tests seen (over tx) op) (tests seen (mine tx) op)
      (tests_there seen tx op fits)
