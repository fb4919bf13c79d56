-- THE WORLD GOES ON, over bits: what a step of lane k owes beside its own sight and what it leaves for the others.
use Rattle.std.proofs.Common.{◌≡◌, ◌≢◌, ℕ, ◌<◌, inl, ⊎_elim, true, false, cond, refl, sym, ap, ◌∙◌, subst, arith}
use Rattle.std.proofs.lemmas.Bool.{cases_eq, cases_Bool, both_ways}
use Rattle.pm_layout.specs.declared.shape.Shape.{Shape}
use Rattle.pm_view.specs.Places.{Place, Block}
use Rattle.pm_view.specs.Log.{Phase}
use Rattle.pm_world.specs.States.{State, live, read, Cells}
use Rattle.pm_world.specs.Sights.{Hold, Sight}
use Rattle.pm_world.specs.Lanes.{Ghost, own, owns, settled, SightFits, Flies, flies_at, is_occupancy, is_taken, Alone, GeoFits, Bits}
use Rattle.pm_world.proofs.Frame.{Around, kept, twin_free}

-- lane k's sight is x', the others' are as before
pub record Turned (sights sights' : ℕ → Sight) (k : ℕ) (x' : Sight) : Type 0 where
  pub here : sights' k ≡ x'
  pub else_ : (j : ℕ) → j ≢ k → sights' j ≡ sights j

module _ (sh : Shape) (L : ℕ) (o : State) (cells : Cells) (sights : ℕ → Sight) (g : Ghost) (x : Bits sh L o cells sights g) (k : ℕ) (ink : k < L) where
  abbrev holds : ℕ → Hold
  holds j = (sights j).hold

  abbrev S : State
  S = settled o g

  pub own_fits : SightFits sh cells (settled o g) (Flies g k) g k (sights k)
  own_fits = x.each_lane k

  -- what is owed of bits that the lane no longer owns, of bits that become alive, and of what the world says of descriptors, occupancy, geometry, locks, the
  -- counter and the history. S' are the words settled after the step
  pub record Rest (S' : State) (cells' : Cells) (x' : Sight) (g' : Ghost) : Type 0 where
    pub gone : (p : Place) (b : ℕ) → owns g.geo (settled o g) (sights k).hold p b ≡ true → owns g'.geo S' x'.hold p b ≡ false → live S' g'.geo g'.runs p ≡ true → read cells'.pool p b ≡ S' p b
    pub back : (p : Place) (b : ℕ) → owns g.geo (settled o g) (sights k).hold p b ≡ false → owns g'.geo S' x'.hold p b ≡ false → live S' g'.geo g'.runs p ≡ true
        → (live (settled o g) g.geo g.runs p ≡ true) × ((j : ℕ) → j ≢ k → owns g'.geo S' (sights j).hold p b ≡ false → owns g.geo (settled o g) (sights j).hold p b ≡ false)
    pub made : (c : ℕ) → x'.hold.making c ≡ false → ((j : ℕ) → j ≢ k → (sights j).hold.making c ≡ false) → cells'.descr c ≡ cond (g'.runs c) (g'.geo.class c) 0
    pub occ : (a : Block) → is_occupancy sh a ≡ true → cells'.occ a ≡ is_taken S' g' a
    pub geo : GeoFits sh S' g'
    pub alone : Alone cells'.writer cells'.reader
    pub counter : cells'.counter ≡ g'.length
    pub flying : (n : ℕ) → n < g'.length → g'.decided n ≡ false → ((g'.who n ≡ k → flies_at x'.phase n) × (g'.who n ≢ k → flies_at (sights (g'.who n)).phase n))

  pub goes_on : (S' : State) (cells' : Cells) (x' : Sight) (g' : Ghost) (sights' : ℕ → Sight) → settled o g' ≡ S' → Around k (sights k).hold holds cells cells' (settled o g) S' g g'
      → SightFits sh cells' S' (Flies g' k) g' k x' → Rest S' cells' x' g' → Turned sights sights' k x' → Bits sh L o cells' sights' g'
  goes_on S' cells' x' g' sights' e m f r t = record {
    each_lane = λ j. subst (λ s. SightFits sh cells' s (Flies g' j) g' j (sights' j)) (sym e) (each j);
    beyond = λ j out. let s = t.else_ j (λ q. omega arith) in subst (λ y. (B : Block) → (own y.hold B ≡ false) × ((l : ℕ) → y.hold.locked l ≡ false)) (sym s) (x.beyond j out);
    unowned = λ p b none_ l. subst (λ s. ((j : ℕ) → owns g'.geo s (sights' j).hold p b ≡ false) → live s g'.geo g'.runs p ≡ true → read cells'.pool p b ≡ s p b) (sym e) (loose p b) none_ l;
    descr = λ c none_. r.made c (subst (λ y. y.hold.making c ≡ false) t.here (none_ k)) (λ j ne. subst (λ y. y.hold.making c ≡ false) (t.else_ j ne) (none_ j));
    occ = subst (λ s. (a : Block) → is_occupancy sh a ≡ true → cells'.occ a ≡ is_taken s g' a) (sym e) r.occ;
    geo = subst (λ s. GeoFits sh s g') (sym e) r.geo;
    alone = r.alone;
    counter = r.counter;
    flying = λ n l u. let y = r.flying n l u in ⊎_elim (λ (q : g'.who n ≡ k). subst (λ z. flies_at z.phase n) (sym (ap sights' q ∙ t.here)) (y.0 q)) (λ (ne : g'.who n ≢ k). subst (λ z. flies_at z.phase n) (sym (t.else_ (g'.who n) ne)) (y.1 ne)) (cases_eq (g'.who n) k);
  }
    where
      each : (j : ℕ) → SightFits sh cells' S' (Flies g' j) g' j (sights' j)
      each j = ⊎_elim (λ (q : j ≡ k). subst (λ i. SightFits sh cells' S' (Flies g' i) g' i (sights' i)) (sym q) (subst (λ y. SightFits sh cells' S' (Flies g' k) g' k y) (sym t.here) f))
          (λ (ne : j ≢ k). subst (λ y. SightFits sh cells' S' (Flies g' j) g' j y) (sym (t.else_ j ne)) (kept sh k (sights k) holds cells cells' (settled o g) S' g g' x.geo x.alone own_fits m j ne (sights j) refl (x.each_lane j))) (cases_eq j k)

      loose : (p : Place) (b : ℕ) → ((j : ℕ) → owns g'.geo S' (sights' j).hold p b ≡ false) → live S' g'.geo g'.runs p ≡ true → read cells'.pool p b ≡ S' p b
      loose p b none_ l = let mine : owns g'.geo S' x'.hold p b ≡ false = subst (λ y. owns g'.geo S' y.hold p b ≡ false) t.here (none_ k) in
          let else_ : (j : ℕ) → j ≢ k → owns g'.geo S' (sights j).hold p b ≡ false = λ j ne. subst (λ y. owns g'.geo S' y.hold p b ≡ false) (t.else_ j ne) (none_ j) in
          ⊎_elim (λ (q : owns g.geo (settled o g) (sights k).hold p b ≡ true). r.gone p b q mine l)
          (λ (u : owns g.geo (settled o g) (sights k).hold p b ≡ false). let y = r.back p b u mine l in
          m.pool p b u (twin_free sh cells (settled o g) (Flies g k) g x.geo k (sights k) own_fits p b y.0 u)
          ∙ (x.unowned p b (λ j. ⊎_elim (λ (q : j ≡ k). subst (λ i. owns g.geo (settled o g) (sights i).hold p b ≡ false) (sym q) u) (λ (ne : j ≢ k). y.1 j ne (else_ j ne)) (cases_eq j k)) y.0 ∙ sym (m.set p b u))) (cases_Bool (owns g.geo (settled o g) (sights k).hold p b))

  -- the lane's sight, its phase written out
  pub at_phase : (ph : Phase) → (sights k).phase ≡ ph → SightFits sh cells (settled o g) (Flies g k) g k (record (sights k) { phase = ph })
  at_phase ph e = subst (λ z. SightFits sh cells (settled o g) (Flies g k) g k (record (sights k) { phase = z })) e own_fits

  -- descriptors are what they were where the lane makes the same runs
  pub same_made : (x' : Sight) → ((c : ℕ) → x'.hold.making c ≡ (sights k).hold.making c) → (c : ℕ) → x'.hold.making c ≡ false → ((j : ℕ) → j ≢ k → (sights j).hold.making c ≡ false) → cells.descr c ≡ cond (g.runs c) (g.geo.class c) 0
  same_made x' e c u w = x.descr c (λ j. ⊎_elim (λ (s : j ≡ k). subst (λ i. (sights i).hold.making c ≡ false) (sym s) (sym (e c) ∙ u)) (λ (ne : j ≢ k). w j ne) (cases_eq j k))

  pub still_flying : (x' : Sight) → ((n : ℕ) → flies_at (sights k).phase n → flies_at x'.phase n) → (n : ℕ) → n < g.length → g.decided n ≡ false → ((g.who n ≡ k → flies_at x'.phase n) × (g.who n ≢ k → flies_at (sights (g.who n)).phase n))
  still_flying x' m n l u = (λ q. m n (subst (λ i. flies_at (sights i).phase n) q (x.flying n l u)), λ ne. x.flying n l u)

  -- A STEP THAT CHANGES NEITHER WORDS NOR RIGHTS NOR GHOSTS: its lane's sight still fits
  pub unchanged : (x' : Sight) (sights' : ℕ → Sight) → x'.hold ≡ (sights k).hold → ((n : ℕ) → flies_at (sights k).phase n → flies_at x'.phase n) → SightFits sh cells (settled o g) (Flies g k) g k x' → Turned sights sights' k x' → Bits sh L o cells sights' g
  unchanged x' sights' held flies f t = goes_on (settled o g) cells x' g sights' refl
      record { writer = λ l j ne. refl; reader = λ l j ne. refl; pool = λ p b u w. refl; set = λ p b u. refl; descr = λ c u. refl; up = λ c n e. e; runs = λ c u. refl; holder = λ B j ne e. e; holder_back = λ B j ne e. e; class = λ c u. refl; first = λ c j ne. inl refl; flies = λ j n d ne w y. y }
      f record {
        gone = λ p b q u l. absurd (both_ways (owns g.geo (settled o g) (sights k).hold p b) (sym (ap (λ h. owns g.geo (settled o g) h p b) held) ∙ u) q);
        back = λ p b u u' l. (l, λ j ne y. y);
        made = same_made x' (λ c. ap (λ h. h.making c) held);
        occ = x.occ;
        geo = x.geo;
        alone = x.alone;
        counter = x.counter;
        flying = still_flying x' flies;
      } t
