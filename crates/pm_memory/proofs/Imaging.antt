-- The image of a choice, a lane more.
use Rattle.std.proofs.Common.{◌≡◌, ℕ, suc, ◌+◌, ◌<◌, List, [], ◌∷◌, ◌++◌, take, length, get_or, slice_index, sum_by, refl, sym, ap, ◌∙◌, subst, arith, length-take-le, zero-add}
use Rattle.std.proofs.lemmas.List.{take_more, take_all}
use Rattle.std.proofs.lemmas.List.Sums.{sum_by-append}
use Rattle.pm_view.specs.declared.change.Change.{Change}
use Rattle.pm_memory.specs.declared.survivors.Kept.{Kept}
use Rattle.pm_memory.specs.Keep.{kept, touched_below, IsKeptImage}
use Rattle.pm_memory.specs.Keeping.{kept_after, kept_by, IsTakenBack}
use Rattle.pm_memory.specs.Survivors.{Choice, IsImage, Survives, survivor, survivor_of_all}

pub survivor_of_all-append : (choice : Choice) (lane : ℕ) (lanes : List (List Change)) (changes : List Change) (w x : ℕ) → survivor_of_all choice lane (lanes ++ changes ∷ []) w x ≡ survivor (choice (lane + length lanes) w) changes w (survivor_of_all choice lane lanes w x)
survivor_of_all-append choice lane [] changes w x = let e : lane ≡ lane + 0 = omega arith in ap (λ k. survivor (choice k w) changes w x) e
survivor_of_all-append choice lane (first ∷ lanes) changes w x =
    let e : suc lane + length lanes ≡ lane + suc (length lanes) = omega arith in
    let so_far : ℕ = survivor_of_all choice (suc lane) lanes w (survivor (choice lane w) first w x) in
    survivor_of_all-append choice (suc lane) lanes changes w (survivor (choice lane w) first w x) ∙ ap (λ k. survivor (choice k w) changes w so_far) e

-- the first so many lanes are done
pub record IsImageOfFirst (keep : ℕ) (words left : List ℕ) (lanes : List (List Change)) (i : ℕ) (now : Kept) : Type 0 where
  pub drawn : now ≡ kept_after keep (sum_by (touched_below (length words)) (take i lanes))
  pub image : IsImage (kept keep (length words) lanes) words (take i lanes) left

pub image_none : (keep : ℕ) (words : List ℕ) (lanes : List (List Change)) (now : Kept) → now ≡ kept_after keep 0 → IsImageOfFirst keep words words lanes 0 now
image_none keep words lanes now is = record { drawn = is; image = record { size = refl; each = λ w inside. refl } }

pub image_more : (keep : ℕ) (words left more : List ℕ) (lanes : List (List Change)) (i : ℕ) (now next : Kept) → i < length lanes → IsImageOfFirst keep words left lanes i now
    → ((seed draws : ℕ) → now ≡ kept_after seed draws → IsTakenBack seed draws (get_or lanes i []) left more)
    → ((seed draws : ℕ) → now ≡ kept_after seed draws → next ≡ kept_after seed (draws + touched_below (length left) (get_or lanes i [])))
    → IsImageOfFirst keep words more lanes (i + 1) next
image_more keep words left more lanes i now next inside is taken moved =
    let changes : List Change = get_or lanes i [] in
    let size : ℕ = length words in
    let draws : ℕ = sum_by (touched_below size) (take i lanes) in
    let front : take (i + 1) lanes ≡ take i lanes ++ changes ∷ [] = take_more lanes i [] inside in
    let total : sum_by (touched_below size) (take (i + 1) lanes) ≡ draws + touched_below size changes =
    ap (sum_by (touched_below size)) front ∙ (sum_by-append (touched_below size) (take i lanes) (changes ∷ []) ∙ ap (λ n. draws + n) (zero-add (touched_below size changes))) in
    let back : IsTakenBack keep draws changes left more = taken keep draws is.drawn in
    record {
      drawn = moved keep draws is.drawn ∙ (ap (λ n. kept_after keep (draws + touched_below n changes)) is.image.size ∙ ap (kept_after keep) (sym total));
      image = record {
        size = back.size ∙ is.image.size;
        each = λ w within.
            let so_far : ℕ = survivor_of_all (kept keep size lanes) 0 (take i lanes) w (slice_index words w) in
            let at : 0 + length (take i lanes) ≡ i = omega (arith, length-take-le i lanes (omega arith)) in
            back.each w (omega (arith, is.image.size))
            ∙ (ap (survivor (kept_by keep draws changes w) changes w) (is.image.each w within)
            ∙ sym (ap (λ (ls : List (List Change)). survivor_of_all (kept keep size lanes) 0 ls w (slice_index words w)) front ∙ (survivor_of_all-append (kept keep size lanes) 0 (take i lanes) changes w (slice_index words w) ∙ ap (λ k. survivor (kept keep size lanes k w) changes w so_far) at)));
      };
    }

pub image_all : (keep : ℕ) (words left : List ℕ) (lanes : List (List Change)) (i : ℕ) (now : Kept) → length lanes < i + 1 → IsImageOfFirst keep words left lanes i now → IsImage (kept keep (length words) lanes) words lanes left
image_all keep words left lanes i now all is = subst (λ (ls : List (List Change)). IsImage (kept keep (length words) lanes) words ls left) (take_all i lanes (omega arith)) is.image

-- one lane alone
pub image_of_one : (keep : ℕ) (words left : List ℕ) (changes : List Change) → IsTakenBack keep 0 changes words left → IsImage (kept keep (length words) (changes ∷ [])) words (changes ∷ []) left
image_of_one keep words left changes back = record { size = back.size; each = λ w inside. back.each w inside }

-- the image of a keep number is one that may survive
pub kept_survives : (keep : ℕ) (words : List ℕ) (lanes : List (List Change)) (image : List ℕ) → IsKeptImage keep words lanes image → Survives words lanes image
kept_survives keep words lanes image is = record { choice = kept keep (length words) lanes; is = is }
