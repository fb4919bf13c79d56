-- WHAT A LANE HAS AND KNOWS STAYS as it takes locks, looks under them and raises them: it holds no
-- fewer lines, has and finds no fewer blocks, and knows of their words what it knew.
use Rattle.std.proofs.Common.{◌≡◌, ◌≢◌, ⊎_elim, ℕ, ◌<◌, Bool, true, false, not, ◌==◌, ◌&&◌, ◌||◌, List, [], ◌∷◌, refl, sym, ap, ◌∙◌, subst, arith, ne_eqb, None}
use Rattle.std.specs.List.{AllByRecursion}
use Rattle.std.proofs.lemmas.Bool.{and_from, and_left, both_ways, cond-false, eqb-true, false_from_ne_true, or_cases, or_left, or_right}
use Rattle.pm_layout.specs.Chunks.{word_of_root}
use Rattle.pm_view.specs.Claims.{Claim, Took, Raised, class, found, holds, is_held_at, locked, making, mine, pictured, reads, span}
use Rattle.pm_view.specs.Log.{place_at}
use Rattle.pm_view.specs.Places.{Block, Big}
use Rattle.pm_view.specs.View.{View}
use Rattle.pm_world.specs.declared.lane.HeldLock.{HeldLock}
use Rattle.pm_crash.specs.Roots.{saw_root}
use Rattle.pm_crash.proofs.RootClaims.{held_by, saw_held}
use Rattle.pm_lock.specs.Holding.{Rises, took}
use Rattle.pm_lock.specs.Objects.{has}
use Rattle.pm_lock.specs.Raising.{rose}

-- the view with these claims
abbrev pub claiming : View → List Claim → View
claiming v t = record v { claims = t }

pub record KeepsAll (v : View) (t : List Claim) : Type 0 where
  pub holds_on : (line : ℕ) → holds v.claims line ≡ true → holds t line ≡ true
  pub making_same : (c : ℕ) → making v.fixed.shape t c ≡ making v.fixed.shape v.claims c
  pub mine_same : (B : Block) → mine v.fixed.shape t B ≡ mine v.fixed.shape v.claims B
  pub found_on : (B : Block) → found v.fixed.shape v.claims B ≡ true → found v.fixed.shape t B ≡ true
  pub span_same : (f : ℕ) → has v (Big f) ≡ true → span v.fixed.shape t f ≡ span v.fixed.shape v.claims f
  pub class_same : (c : ℕ) → class v.claims c ≢ 0 → class t c ≡ class v.claims c
  -- of data that it has it knows the place and the value
  pub data_same : (u : ℕ) → is_held_at v.fixed.shape v.claims (place_at v.fixed.shape (class v.claims) u) ≡ true
      → (place_at v.fixed.shape (class t) u ≡ place_at v.fixed.shape (class v.claims) u) × (is_held_at v.fixed.shape t (place_at v.fixed.shape (class t) u) ≡ true)
      × (pictured v.fixed.shape t u ≡ pictured v.fixed.shape v.claims u)
  -- and of words that are no place, and of the root word
  pub beside : (u : ℕ) → ((cl : ℕ → ℕ) → place_at v.fixed.shape cl u ≡ None) → pictured v.fixed.shape t u ≡ pictured v.fixed.shape v.claims u
  pub root_same : pictured v.fixed.shape t (word_of_root v.fixed.shape) ≡ pictured v.fixed.shape v.claims (word_of_root v.fixed.shape)
  pub roots_on : (line value : ℕ) → saw_root v.fixed.shape v.claims line value ≡ true → saw_root v.fixed.shape t line value ≡ true

pub keeps_none : (v : View) → KeepsAll v v.claims
keeps_none v = record {
  holds_on = λ l e. e;
  making_same = λ c. refl;
  mine_same = λ B. refl;
  found_on = λ B e. e;
  span_same = λ f e. refl;
  class_same = λ c e. refl;
  data_same = λ u e. (refl, e, refl);
  beside = λ u e. refl;
  root_same = refl;
  roots_on = λ l x e. e;
}

-- ALONG MORE OF THEM
pub keeps_more : (v : View) (t t' : List Claim) → KeepsAll v t → KeepsAll (claiming v t) t' → KeepsAll v t'
keeps_more v t t' a b = record {
  holds_on = λ l e. b.holds_on l (a.holds_on l e);
  making_same = λ c. b.making_same c ∙ a.making_same c;
  mine_same = λ B. b.mine_same B ∙ a.mine_same B;
  found_on = λ B e. b.found_on B (a.found_on B e);
  span_same = λ f e. b.span_same f (has_on (Big f) e) ∙ a.span_same f e;
  class_same = λ c some. let s = a.class_same c some in b.class_same c (λ z. some (sym s ∙ z)) ∙ s;
  data_same = λ u held. let s = a.data_same u held in let r = b.data_same u s.1 in (r.0 ∙ s.0, r.1, r.2 ∙ s.2);
  beside = λ u none. b.beside u none ∙ a.beside u none;
  root_same = b.root_same ∙ a.root_same;
  roots_on = λ l x e. b.roots_on l x (a.roots_on l x e);
}
  where
    has_on : (B : Block) → has v B ≡ true → has (claiming v t) B ≡ true
    has_on B e = ⊎_elim (λ (m : mine v.fixed.shape v.claims B ≡ true). or_left (mine v.fixed.shape t B) (found v.fixed.shape t B) (a.mine_same B ∙ m))
        (λ (m : found v.fixed.shape v.claims B ≡ true). or_right (mine v.fixed.shape t B) (found v.fixed.shape t B) (a.found_on B m))
        (or_cases (mine v.fixed.shape v.claims B) (found v.fixed.shape v.claims B) e)

-- ---- A LOCK IS TAKEN, of a line that was not held and is not the root word's
pub no_root_lock : (m w root : ℕ) → m ≢ 0 → ((m == 0) && (w == root)) ≡ false
no_root_lock m w root ne = and_left (m == 0) (w == root) (ne_eqb m 0 ne)

pub keeps_took : (v : View) (m : ℕ) (write : Bool) → m ≢ 0 → holds v.claims m ≡ false → KeepsAll v (Took m write ∷ v.claims)
keeps_took v m write some free = record {
  holds_on = λ l h. held_by (locked v.claims l) (reads v.claims l) (locked (Took m write ∷ v.claims) l) (reads (Took m write ∷ v.claims) l)
      (λ e. or_right (write && (m == l)) (locked v.claims l) e) (λ e. or_right (not write && (m == l)) (reads v.claims l) e) h;
  making_same = λ c. refl;
  mine_same = λ B. refl;
  found_on = λ B e. e;
  span_same = λ f e. refl;
  class_same = λ c e. refl;
  data_same = λ u e. (refl, e, same u);
  beside = λ u e. same u;
  root_same = same (word_of_root v.fixed.shape);
  roots_on = λ line x r. and_from (not (m == line)) (saw_root v.fixed.shape v.claims line x)
      (ap not (false_from_ne_true (m == line) (λ e. both_ways (holds v.claims m) free
      (subst (λ l. holds v.claims l ≡ true) (sym (eqb-true m line e)) (saw_held v.fixed.shape v.claims line x r))))) r;
}
  where
    same : (u : ℕ) → pictured v.fixed.shape (Took m write ∷ v.claims) u ≡ pictured v.fixed.shape v.claims u
    same u = cond-false ((m == 0) && (u == word_of_root v.fixed.shape)) None (pictured v.fixed.shape v.claims u) (no_root_lock m u (word_of_root v.fixed.shape) some)

-- another line is held as it was
pub took_other : (t : List Claim) (m : ℕ) (write : Bool) (l : ℕ) → m ≢ l → holds (Took m write ∷ t) l ≡ holds t l
took_other t m write l ne = by write (m == l) (ne_eqb m l ne)
  where
    by : (w b : Bool) → b ≡ false → (((w && b) || locked t l) || ((not w && b) || reads t l)) ≡ holds t l
    by true b e = ap (λ c. (c || locked t l) || reads t l) e
    by false b e = ap (λ c. locked t l || (c || reads t l)) e

-- ---- SO ARE SOME LOCKS in rising place
abbrev pub IsFree : List Claim → HeldLock → Type 0
IsFree t l = (l.line ≢ 0) × (holds t l.line ≡ false)

still_free : (t : List Claim) (m : ℕ) (write : Bool) (locks : List HeldLock) → AllByRecursion (λ (k : HeldLock). m < k.line) locks → AllByRecursion (IsFree t) locks → AllByRecursion (IsFree (Took m write ∷ t)) locks
still_free t m write [] above free = tt
still_free t m write (l ∷ locks) above free = let first = above.0 in ((free.0.0, took_other t m write l.line (λ e. omega (arith, e, first)) ∙ free.0.1), still_free t m write locks above.1 free.1)

pub keeps_taken : (v : View) (locks : List HeldLock) → Rises locks → AllByRecursion (IsFree v.claims) locks → KeepsAll v (took locks v.claims)
keeps_taken v [] rises free = keeps_none v
keeps_taken v (l ∷ locks) rises free = keeps_more v (Took l.line l.write ∷ v.claims) (took locks (Took l.line l.write ∷ v.claims))
    (keeps_took v l.line l.write free.0.0 free.0.1)
    (keeps_taken (claiming v (Took l.line l.write ∷ v.claims)) locks rises.1 (still_free v.claims l.line l.write locks rises.0 free.1))

-- ---- A LOCK IS RAISED, and so are some
keeps_raised : (v : View) (m : ℕ) → KeepsAll v (Raised m ∷ v.claims)
keeps_raised v m = record {
  holds_on = λ l h. by l (m == l) refl h;
  making_same = λ c. refl;
  mine_same = λ B. refl;
  found_on = λ B e. e;
  span_same = λ f e. refl;
  class_same = λ c e. refl;
  data_same = λ u e. (refl, e, refl);
  beside = λ u e. refl;
  root_same = refl;
  roots_on = λ line x r. r;
}
  where
    by : (l : ℕ) (b : Bool) → (m == l) ≡ b → holds v.claims l ≡ true → (((m == l) || locked v.claims l) || (not (m == l) && reads v.claims l)) ≡ true
    by l true e h = ap (λ b. (b || locked v.claims l) || (not b && reads v.claims l)) e
    by l false e h = ap (λ b. (b || locked v.claims l) || (not b && reads v.claims l)) e ∙ h

pub keeps_rose : (v : View) (locks : List HeldLock) → KeepsAll v (rose locks v.claims)
keeps_rose v [] = keeps_none v
keeps_rose v (l ∷ locks) = keeps_more v (Raised l.line ∷ v.claims) (rose locks (Raised l.line ∷ v.claims)) (keeps_raised v l.line) (keeps_rose (claiming v (Raised l.line ∷ v.claims)) locks)
