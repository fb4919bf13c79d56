-- A STORE INTO WORDS THAT THE LANE OWNS, in one use or the other, or that are no place's: no ghost and no right changes.
use Rattle.std.proofs.Common.{◌≡◌, ℕ, ◌<◌, inl, false, refl, sym, ap, ◌∙◌}
use Rattle.std.proofs.lemmas.Bool.{both_ways}
use Rattle.pm_layout.specs.declared.shape.Shape.{Shape}
use Rattle.pm_view.specs.Places.{Place, Block, twin}
use Rattle.pm_world.specs.States.{State, read, Cells}
use Rattle.pm_world.specs.Sights.{Hold, Sight}
use Rattle.pm_world.specs.Lanes.{Ghost, owns, settled, Flies, flies_at, SightFits, Bits}
use Rattle.pm_world.proofs.Frame.{Around}
use Rattle.pm_world.proofs.Going.{Turned, goes_on, same_made, still_flying}

-- the words after such a store: pool bits that the lane does not own in either use, and what descriptors tell of runs, stay, and so do locks, occupancy and
-- the counter; words of the lanes' areas may change
pub record OwnWords (S : State) (g : Ghost) (h : Hold) (cells cells' : Cells) : Type 0 where
  pub pool : (p : Place) (b : ℕ) → owns g.geo S h p b ≡ false → owns g.geo S h (twin p) b ≡ false → read cells'.pool p b ≡ read cells.pool p b
  pub descr : (c : ℕ) → cells'.descr c ≡ cells.descr c
  pub writer : (l j : ℕ) → cells'.writer l j ≡ cells.writer l j
  pub reader : (l j : ℕ) → cells'.reader l j ≡ cells.reader l j
  pub occ : (a : Block) → cells'.occ a ≡ cells.occ a
  pub counter : cells'.counter ≡ cells.counter

-- what it leaves for the others
pub around_own : (S : State) (g : Ghost) (k : ℕ) (h : Hold) (holds : ℕ → Hold) (cells cells' : Cells) → OwnWords S g h cells cells' → Around k h holds cells cells' S S g g
around_own S g k h holds cells cells' w = record {
  writer = λ l j ne. w.writer l j;
  reader = λ l j ne. w.reader l j;
  pool = w.pool;
  set = λ p b u. refl;
  descr = λ c u. w.descr c;
  up = λ c n e. w.descr c ∙ e;
  runs = λ c u. refl;
  holder = λ B j ne e. e;
  holder_back = λ B j ne e. e;
  class = λ c u. refl;
  first = λ c j ne. inl refl;
  flies = λ j n d ne a y. y;
}

module _ (sh : Shape) (L : ℕ) (o : State) (cells cells' : Cells) (sights : ℕ → Sight) (g : Ghost) (x : Bits sh L o cells sights g) (k : ℕ) (ink : k < L) (w : OwnWords (settled o g) g (sights k).hold cells cells') where
  pub stored : (x' : Sight) (sights' : ℕ → Sight) → x'.hold ≡ (sights k).hold → ((n : ℕ) → flies_at (sights k).phase n → flies_at x'.phase n) → SightFits sh cells' (settled o g) (Flies g k) g k x' → Turned sights sights' k x' → Bits sh L o cells' sights' g
  stored x' sights' held flies f t = goes_on sh L o cells sights g x k ink (settled o g) cells' x' g sights' refl (around_own (settled o g) g k (sights k).hold (λ j. (sights j).hold) cells cells' w) f record {
    gone = λ p b q u l. absurd (both_ways (owns g.geo (settled o g) (sights k).hold p b) (sym (ap (λ h. owns g.geo (settled o g) h p b) held) ∙ u) q);
    back = λ p b u u' l. (l, λ j ne y. y);
    made = λ c u v. w.descr c ∙ same_made sh L o cells sights g x k ink x' (λ d. ap (λ h. h.making d) held) c u v;
    occ = λ a q. w.occ a ∙ x.occ a q;
    geo = x.geo;
    alone = λ l j q i. let y = x.alone l j (sym (w.writer l j) ∙ q) i in (w.reader l i ∙ y.0, λ ne. w.writer l i ∙ y.1 ne);
    counter = w.counter ∙ x.counter;
    flying = still_flying sh L o cells sights g x k ink x' flies;
  } t
