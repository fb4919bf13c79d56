-- A LOOK AT A WORD OF AN OBJECT is as operations take it, where the lane's view is one of a world in which the word has the value found.
use Rattle.std.proofs.Common.{◌≡◌, ℕ, ◌+◌, ◌*◌, ◌^◌, ◌<◌, ◌≤◌, sym, ap, ◌∙◌, subst}
use Rattle.pm_view.specs.Claims.{header_in}
use Rattle.pm_view.specs.Founds.{FindsKnown}
use Rattle.pm_view.specs.Places.{Block, word_of}
use Rattle.pm_view.specs.Steps.Step.{Load}
use Rattle.pm_view.specs.View.{View}
use Rattle.pm_view.specs.Views.{after}
use Rattle.pm_world.specs.InWorld.{InWorld, IsSound, block_bytes}
use Rattle.pm_world.specs.Memory.{PoolWord}
use Rattle.pm_world.proofs.Known.{known_so}
use Rattle.pm_world.proofs.SizesSeen.{size_found}
use Rattle.pm_crash.specs.Looked.{word_place}
use Rattle.pm_call.specs.Held.{IsObjectWord, LooksAt}
use Rattle.pm_call.proofs.KnownObjects.{word_number}

-- the value found is a word's, it is what the lane knows, and a size fits its block
pub in_world : (v : View) (B : Block) (k w x : ℕ) → IsSound v → IsObjectWord v B k → word_of v.fixed.shape (word_place v B k) ≡ w → InWorld v w x
    → (x < 2 ^ 64) × FindsKnown v (word_of v.fixed.shape (word_place v B k)) x × (k ≡ 1 → 64 + x ≤ block_bytes v B)
in_world v B k w x sound is at i = (
  subst (λ n. n < 2 ^ 64) i.word (i.world.small w),
  subst (λ n. FindsKnown v n x) (sym at) (subst (FindsKnown v w) i.word (subst (λ (u : View). FindsKnown u w (i.memory (PoolWord w))) i.here (known_so i.opening i.memory i.views i.past i.world v.fixed.lane i.runs w))),
  λ one. size_found v B x is.found is.inside (subst (λ n. InWorld v n x) (sym at ∙ (word_number v sound B k is ∙ ap (λ n. 8 * header_in v.fixed.shape v.claims B + n) one)) i),
)

-- SO IT IS A LOOK, at a word that is named by its number
abbrev pub look_at : (v : View) (B : Block) (k w x : ℕ) → IsSound v → IsObjectWord v B k → word_of v.fixed.shape (word_place v B k) ≡ w → InWorld v w x → LooksAt v (after v (Load w x))
look_at v B k w x sound is at i = record {
  block = B;
  index = k;
  word = is;
  value = x;
  small = (in_world v B k w x sound is at i).0;
  agrees = (in_world v B k w x sound is at i).1;
  fits = (in_world v B k w x sound is at i).2;
  then = ap (λ n. after v (Load n x)) (sym at);
}
