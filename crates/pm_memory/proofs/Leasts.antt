-- The least changed word, a change more.
use Rattle.std.proofs.Common.{◌≡◌, ℕ, ◌+◌, ◌<◌, ◌≤◌, List, take, length, get_or, refl, subst, arith}
use Rattle.std.specs.List.{All, Any}
use Rattle.std.proofs.lemmas.List.{take_all, get_or_default}
use Rattle.std.proofs.lemmas.List.Elements.{All-more, All-weaker}
use Rattle.pm_view.specs.declared.change.Change.{Change}

-- of the first so many changes none is of a word from `from` on and below `least`, which is
-- changed or `end`
pub record IsLeast (changes : List Change) (from end i least : ℕ) : Type 0 where
  pub low : from ≤ least
  pub most : least ≤ end
  pub changed : least < end → Any (λ (c : Change). c.word ≡ least) changes
  pub below : All (λ (c : Change). from ≤ c.word → least ≤ c.word) (take i changes)

module _ (changes : List Change) (from end i least : ℕ) (d : Change) (is : IsLeast changes from end i least) where
  abbrev change : Change
  change = get_or changes i d

  below_more : (less : ℕ) → i < length changes → less ≤ least → (from ≤ change.word → less ≤ change.word) → All (λ (c : Change). from ≤ c.word → less ≤ c.word) (take (i + 1) changes)
  below_more less within down here =
      All-more (λ (c : Change). from ≤ c.word → less ≤ c.word) changes i d within (All-weaker (λ (c : Change). from ≤ c.word → least ≤ c.word) (λ (c : Change). from ≤ c.word → less ≤ c.word) (λ c before low. let few : least ≤ c.word = before low in omega arith) (take i changes) is.below) here

  pub least-stays : i < length changes → (from ≤ change.word → least ≤ change.word) → IsLeast changes from end (i + 1) least
  least-stays within here = record { low = is.low; most = is.most; changed = is.changed; below = below_more least within (omega arith) here }

  pub least-falls : i < length changes → from ≤ change.word → change.word < least → IsLeast changes from end (i + 1) change.word
  least-falls within low lower = record {
    low = low;
    most = omega (arith, is.most);
    changed = λ _. (i, change, within, get_or_default changes i change d within, refl);
    below = below_more change.word within (omega arith) (λ _. omega arith);
  }

pub least_all : (changes : List Change) (from end i least : ℕ) → length changes ≤ i → IsLeast changes from end i least → All (λ (c : Change). from ≤ c.word → least ≤ c.word) changes
least_all changes from end i least all is = subst (All (λ (c : Change). from ≤ c.word → least ≤ c.word)) (take_all i changes all) is.below
