-- Transactions of the same lists, on pools and copies that are alike to an operation, are refused alike.
use Rattle.std.proofs.Common.{◌≡◌, ℕ, ◌+◌, Bool, true, false, ltb, List, [], ◌∷◌, ◌||◌, length, map, refl, ◌∙◌, ap, arith}
use Rattle.std.specs.List.{Contains, list_any}
use Rattle.std.proofs.lemmas.Bool.{or_parts}
use Rattle.std.proofs.lemmas.List.Elements.{All-contains_itself}
use Rattle.pm_objects.specs.declared.calls.Operation.{Operation}
use Rattle.pm_objects.specs.declared.calls.Operation.TheVariants.{AddRange, Write, Read, Increment, Free, Publish}
use Rattle.pm_objects.specs.declared.ids.Oid.{Oid}
use Rattle.pm_model.specs.Items.{Items, PlainPool, is_root, size_of}
use Rattle.pm_crash.specs.Looks.{AreAlike, RefusalsLook, ids_sized}
use Rattle.pm_crash.specs.OpenRuns.{on_pool}
use Rattle.pm_model.specs.Pending.{SetWord, passes_object}
use Rattle.pm_model.specs.Refusals.{Seen, is_listed, is_not_held, refusal_of, tests}
use Rattle.pm_model.specs.Transaction.{Transaction, is_gone}
use Rattle.pm_model.proofs.Lists.{Each, SameTests, each_both, each_of_all, each_unmap, none_pass, same_any, same_first, same_tests}

-- each of a list is in it
module _ {A : Type 0} where
  each_itself : (xs : List A) → Each (Contains xs) xs
  each_itself xs = each_of_all (Contains xs) xs (All-contains_itself xs)

only : {A : Type 0} (x : A) → Contains (x ∷ []) x
only x = (0, omega arith, refl)

module _ (tx : Transaction) (before : PlainPool) (copy looked : Items) (other : PlainPool) where
  -- the pool with what else was looked at
  abbrev seen_pool : PlainPool
  seen_pool = record before { name = other.name; items = other.items; root = other.root }

  abbrev here : Transaction
  here = on_pool before copy tx

  abbrev there : Transaction
  there = on_pool seen_pool looked tx

  module _ (op : Operation) (alike : AreAlike tx op before other copy looked) where
    ends : (id : Oid) (write : Bool) (end : ℕ) → Contains (ids_sized tx op) id → is_not_held here write id ≡ false → is_gone tx id.off ≡ false
        → ltb (size_of copy id.off) end ≡ ltb (size_of looked id.off) end
    ends id write end named held stays = ap (λ n. ltb n end) (alike.sizes id write named held stays)

  -- each object of a list is held, and stays
  module _ {A : Type 0} (id_of : A → Oid) where
    held_each : (xs : List A) → list_any (λ a. is_not_held here true (id_of a)) xs ≡ false → list_any (λ a. is_gone tx (id_of a).off) xs ≡ false
        → Each (λ a. (is_not_held here true (id_of a) ≡ false) × (is_gone tx (id_of a).off ≡ false)) xs
    held_each xs held stays = each_both (λ a. is_not_held here true (id_of a) ≡ false) (λ a. is_gone tx (id_of a).off ≡ false)
        (λ a. (is_not_held here true (id_of a) ≡ false) × (is_gone tx (id_of a).off ≡ false)) xs (λ a p q. (p, q))
        (none_pass (λ a. is_not_held here true (id_of a)) xs held) (none_pass (λ a. is_gone tx (id_of a).off) xs stays)

  tests_alike : (seen : Seen) (op : Operation) → AreAlike tx op before other copy looked → SameTests (tests seen here op) (tests seen there op)
  tests_alike seen (AddRange id at len) alike = (
    refl,
    refl,
    λ a. (
      refl,
      refl,
      λ b. (
        refl,
        refl,
        λ held. (
          refl,
          refl,
          λ stays.
              (refl, ends (AddRange id at len) alike id true (at + len) (only id) held stays, λ d. (refl, refl, λ e. tt)),
        ),
      ),
    ),
  )
  tests_alike seen (Write id at bytes) alike = (
    refl,
    refl,
    λ a. (
      refl,
      refl,
      λ b. (
        refl,
        refl,
        λ held. (
          refl,
          refl,
          λ stays.
              (refl, ends (Write id at bytes) alike id true (at + length bytes) (only id) held stays, λ d. (refl, refl, λ e. tt)),
        ),
      ),
    ),
  )
  tests_alike seen (Read id at len) alike = (
    refl,
    refl,
    λ a. (
      refl,
      refl,
      λ b. (
        refl,
        refl,
        λ held. (
          refl,
          refl,
          λ stays.
              (refl, ends (Read id at len) alike id false (at + len) (only id) held stays, λ d. tt),
        ),
      ),
    ),
  )
  tests_alike seen (Increment id at by) alike = (
    refl,
    refl,
    λ a. (
      refl,
      refl,
      λ b. (
        refl,
        refl,
        λ held. (
          refl,
          refl,
          λ stays. (
            refl,
            ends (Increment id at by) alike id false (at + 8) (only id) held stays,
            λ d. (
              refl,
              refl,
              λ e. (
                refl,
                refl,
                λ f. (
                  refl,
                  refl,
                  λ g. (
                    refl,
                    refl,
                    λ h.
                        (refl, ends (Increment id at by) alike id false (at + 8) (only id) held stays, λ i. (refl, refl, λ j. tt)),
                  ),
                ),
              ),
            ),
          ),
        ),
      ),
    ),
  )
  tests_alike seen (Free id) alike = (
    refl,
    refl,
    λ a. (
      refl,
      refl,
      λ b. (
        refl,
        refl,
        λ held. (
          refl,
          refl,
          λ stays.
              (refl, alike.roots id (only id) held stays, λ d. (refl, alike.listed id (only id) held stays, λ e. (refl, refl, λ f. tt))),
        ),
      ),
    ),
  )
  tests_alike seen Publish alike = (
    refl,
    refl,
    λ a. (
      refl,
      refl,
      λ b. (
        refl,
        refl,
        λ held. (
          refl,
          refl,
          λ stays.
              let frees : List Oid = tx.pending.frees in
              let sets : List SetWord = tx.pending.sets in
              let h = or_parts (list_any (is_not_held here true) frees) (list_any (λ (a : SetWord). is_not_held here true a.id) sets) held in
              let l = or_parts (tx.pending.late || list_any (λ (id : Oid). is_gone tx id.off) frees) (list_any (λ (a : SetWord). is_gone tx a.id.off) sets) stays in
              let s = or_parts tx.pending.late (list_any (λ (id : Oid). is_gone tx id.off) frees) l.0 in
              let freed = held_each (λ (id : Oid). id) frees h.0 s.1 in
              let set = held_each (λ (a : SetWord). a.id) sets h.1 l.1 in (
                refl,
                same_any (λ (id : Oid). is_root before.root id.off) (λ (id : Oid). is_root other.root id.off) frees
                    (each_both (Contains frees) (λ (id : Oid). (is_not_held here true id ≡ false) × (is_gone tx id.off ≡ false)) (λ (id : Oid). is_root before.root id.off ≡ is_root other.root id.off) frees
                    (λ id named x. alike.roots id named x.0 x.1) (each_itself frees) freed),
                λ d. (
                  refl,
                  same_any (λ (id : Oid). is_listed copy id.off) (λ (id : Oid). is_listed looked id.off) frees
                      (each_both (Contains frees) (λ (id : Oid). (is_not_held here true id ≡ false) × (is_gone tx id.off ≡ false)) (λ (id : Oid). is_listed copy id.off ≡ is_listed looked id.off) frees
                      (λ id named x. alike.listed id named x.0 x.1) (each_itself frees) freed),
                  λ e. (
                    refl,
                    same_any (passes_object copy) (passes_object looked) sets
                        (each_both (λ (a : SetWord). Contains (map (λ (a : SetWord). a.id) sets) a.id) (λ (a : SetWord). (is_not_held here true a.id ≡ false) × (is_gone tx a.id.off ≡ false)) (λ (a : SetWord). passes_object copy a ≡ passes_object looked a) sets
                        (λ a named x. ends Publish alike a.id true (a.off + 8) named x.0 x.1)
                        (each_unmap (Contains (map (λ (a : SetWord). a.id) sets)) (λ (a : SetWord). a.id) sets (each_itself (map (λ (a : SetWord). a.id) sets))) set),
                    λ f.
                        (refl, refl, λ g. tt),
                  ),
                ),
              ),
        ),
      ),
    ),
  )
  tests_alike seen op alike = same_tests (tests seen here op)

pub refusals_look : RefusalsLook
refusals_look seen tx op before other copy looked alike =
    same_first (tests seen (on_pool before copy tx) op) (tests seen (on_pool (seen_pool tx before copy looked other) looked tx) op) (tests_alike tx before copy looked other seen op alike)
    ∙ ap (λ (p : PlainPool). refusal_of seen (on_pool p looked tx) op) same
  where
    same : seen_pool tx before copy looked other ≡ other
    same = let id = alike.id in let lanes = alike.lanes in let zones = alike.zones in λ i. record other { id = id i; lanes = lanes i; zones = zones i }
