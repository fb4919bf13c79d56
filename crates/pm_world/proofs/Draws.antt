-- A lane draws its call's number, over bits: the call is in flight, or, where there is nothing to be decided, done.
use Rattle.std.proofs.Common.{◌≡◌, ◌≢◌, ℕ, suc, ◌<◌, ◌⊎◌, inl, inr, ⊎_elim, Bool, true, false, cond, refl, sym, ap, ◌∙◌, subst, arith, Option, None}
use Rattle.std.proofs.lemmas.Bool.{cases_eq, both_ways, false_from_ne_true}
use Rattle.pm_layout.specs.declared.shape.Shape.{Shape}
use Rattle.pm_view.specs.Places.{Place, Block, header}
use Rattle.pm_view.specs.Entries.{latest, turn}
use Rattle.pm_view.specs.Log.{Phase, Idle, Open, Drawn}
use Rattle.pm_world.specs.States.{State, Diff, Call, diff, given, over, replay, Cells}
use Rattle.pm_world.specs.Sights.{Sight}
use Rattle.pm_world.specs.Lanes.{Ghost, owns, settled, TurnFlight, BornFits, GuardsFit, Flies, flies_at, Bits}
use Rattle.pm_world.proofs.Frame.{Around}
use Rattle.pm_world.proofs.Replays.{replay_same, skips}
use Rattle.pm_world.proofs.Going.{Turned, Rest, goes_on, at_phase, same_made}

-- the history with one more call, of this lane
pub record Longer (g : Ghost) (k : ℕ) (call : Call) (done : Bool) (log' : ℕ → Call) (who' : ℕ → ℕ) (decided' : ℕ → Bool) : Type 0 where
  pub log_here : (p : Place) (b : ℕ) → diff (log' g.length) p b ≡ diff call p b
  pub log_else : (n : ℕ) → n < g.length → log' n ≡ g.log n
  pub who_here : who' g.length ≡ k
  pub who_else : (n : ℕ) → n < g.length → who' n ≡ g.who n
  pub decided_here : decided' g.length ≡ done
  pub decided_else : (n : ℕ) → n < g.length → decided' n ≡ g.decided n

abbrev pub longer : Ghost → (ℕ → Call) → (ℕ → ℕ) → (ℕ → Bool) → Ghost
longer g log' who' decided' = record g { log = log'; who = who'; length = suc g.length; decided = decided' }

module _ (sh : Shape) (L : ℕ) (o : State) (cells : Cells) (sights : ℕ → Sight) (g : Ghost) (x : Bits sh L o cells sights g) (k : ℕ) (ink : k < L) (done : Bool) (log' : ℕ → Call) (who' : ℕ → ℕ) (decided' : ℕ → Bool) (w : Longer g k (sights k).call done log' who' decided') where
  -- the words settled stay: the call is not decided, or makes nothing final
  pub settled_same : ((p : Place) (b : ℕ) → (done ≡ false) ⊎ (given (diff (sights k).call p b) ≡ false)) → settled o (longer g log' who' decided') ≡ settled o g
  settled_same u = λ i p b. at p b i
    where
      step : (t : Bool) (d : Option Bool) (r : Bool) → (t ≡ false) ⊎ (given d ≡ false) → cond t (over d r) r ≡ r
      step t d r y = ⊎_elim (λ (e : t ≡ false). ap (λ z. cond z (over d r) r) e) (λ (e : given d ≡ false). skips t d r e) y

      at : (p : Place) (b : ℕ) → replay decided' o log' (suc g.length) p b ≡ replay g.decided o g.log g.length p b
      at p b = step (decided' g.length) (diff (log' g.length) p b) (replay decided' o log' g.length p b) (⊎_elim (λ (e : done ≡ false). inl (w.decided_here ∙ e)) (λ (e : given (diff (sights k).call p b) ≡ false). inr (ap given (w.log_here p b) ∙ e)) (u p b))
          ∙ replay_same g.decided decided' o g.log log' p b g.length (λ m l. (ap (λ c. diff c p b) (w.log_else m l), inl (w.decided_else m l)))

  -- calls of others in flight stay so: the new one is of other bits
  others_fly : (j n : ℕ) (d : Diff) → j ≢ k → ((p : Place) (b : ℕ) → given (d p b) ≡ true → owns g.geo (settled o g) (sights k).hold p b ≡ false) → Flies g j n d → Flies (longer g log' who' decided') j n d
  others_fly j n d ne apart f = let l = f.0 in (
    omega arith,
    λ p b. ap (λ c. diff c p b) (w.log_else n l) ∙ f.1 p b,
    w.who_else n l ∙ f.2,
    w.decided_else n l ∙ f.3,
    λ m a c p b t. ⊎_elim
        (λ (e : m ≡ g.length). ap (λ i. given (diff (log' i) p b)) e ∙ (ap given (w.log_here p b) ∙ false_from_ne_true (given (diff (sights k).call p b)) (λ y. both_ways (owns g.geo (settled o g) (sights k).hold p b) (apart p b t) ((x.each_lane k).reach p b y))))
        (λ (e : m ≢ g.length). let l' : m < g.length = omega arith in ap (λ c. given (diff c p b)) (w.log_else m l') ∙ f.4 m a l' p b t) (cases_eq m g.length),
  )

  own_flies : done ≡ false → Flies (longer g log' who' decided') k g.length (diff (sights k).call)
  own_flies e = (omega arith, w.log_here, w.who_here, w.decided_here ∙ e, λ m a c. absurd (omega arith))

  pub around : ((p : Place) (b : ℕ) → (done ≡ false) ⊎ (given (diff (sights k).call p b) ≡ false)) → Around k (sights k).hold (λ j. (sights j).hold) cells (record cells { counter = suc cells.counter }) (settled o g) (settled o g) g (longer g log' who' decided')
  around u = record { writer = λ l j ne. refl; reader = λ l j ne. refl; pool = λ p b a c. refl; set = λ p b a. refl; descr = λ c a. refl; up = λ c n e. e; runs = λ c a. refl; holder = λ B j ne e. e; holder_back = λ B j ne e. e; class = λ c a. refl; first = λ c j ne. inl refl; flies = others_fly }

  pub rest : (ph : Phase) → ((n : ℕ) → n < suc g.length → decided' n ≡ false → who' n ≡ k → flies_at ph n) → Rest sh L o cells sights g x k ink (settled o g) (record cells { counter = suc cells.counter }) (record (sights k) { phase = ph }) (longer g log' who' decided')
  rest ph fl = record {
    gone = λ p b q u l. absurd (both_ways (owns g.geo (settled o g) (sights k).hold p b) u q);
    back = λ p b u u' l. (l, λ j ne y. y);
    made = same_made sh L o cells sights g x k ink (record (sights k) { phase = ph }) (λ c. refl);
    occ = x.occ;
    geo = record { twice = x.geo.twice; classes = x.geo.classes; shape = x.geo.shape; head = x.geo.head; huge = x.geo.huge; zeros = x.geo.zeros; in_zone = x.geo.in_zone; within = x.geo.within };
    alone = x.alone;
    counter = ap suc x.counter;
    flying = λ n l u. (
      fl n l u,
      λ ne. ⊎_elim (λ (e : n ≡ g.length). absurd (ne (ap who' e ∙ w.who_here)))
          (λ (e : n ≢ g.length). let l' : n < g.length = omega arith in subst (λ i. flies_at (sights i).phase n) (sym (w.who_else n l')) (x.flying n l' (sym (w.decided_else n l') ∙ u))) (cases_eq n g.length),
    );
  }

  -- a call that is to be decided flies
  pub draws : done ≡ false → (sights k).phase ≡ Open → ((p : Place) (b : ℕ) → (sights k).soiled p b ≡ false) → ((B : Block) → TurnFlight ((sights k).hold.locked (header sh g.geo B)) ((sights k).hold.mine B) ((sights k).hold.here B) (turn (latest (sights k).call.entries) B))
      → BornFits (settled o g) g (sights k).hold (diff (sights k).call) → GuardsFit (settled o g) g (sights k).hold (diff (sights k).call)
      → (sights' : ℕ → Sight) → Turned sights sights' k (record (sights k) { phase = Drawn g.length }) → Bits sh L o (record cells { counter = suc cells.counter }) sights' (longer g log' who' decided')
  draws e ph clean turns born guarded sights' t = let f = at_phase sh L o cells sights g x k ink Open ph in
      goes_on sh L o cells sights g x k ink (settled o g) (record cells { counter = suc cells.counter }) (record (sights k) { phase = Drawn g.length }) (longer g log' who' decided') sights' (settled_same (λ p b. inl e)) (around (λ p b. inl e)) record {
        hold = record { locks = f.hold.locks; reading = f.hold.reading; found = f.hold.found; here = f.hold.here; found_here = f.hold.found_here; mine = f.hold.mine; holds = f.hold.holds; class = f.hold.class; span = f.hold.span; first = f.hold.first; zone = f.hold.zone; making = f.hold.making; free = f.hold.free; seen = f.hold.seen };
        bits = f.bits;
        picture = f.picture;
        turns = turns;
        call = record { flight = own_flies e; todo = f.call.todo; descr = f.call.descr };
        reach = f.reach;
        plain = f.plain;
        logged = f.logged;
        stored = f.stored;
        fresh = f.fresh;
        sizes = f.sizes;
        born = λ _. born;
        guarded = λ _. guarded;
        soiled = λ p b y. absurd (both_ways ((sights k).soiled p b) (clean p b) y);
      } (rest (Drawn g.length) (λ n l u q. ⊎_elim (λ (s : n ≡ g.length). sym s)
      (λ (s : n ≢ g.length). let l' : n < g.length = omega arith in absurd (subst (λ z. flies_at z n) (ap (λ i. (sights i).phase) (sym (w.who_else n l') ∙ q) ∙ ph) (x.flying n l' (sym (w.decided_else n l') ∙ u)))) (cases_eq n g.length))) t

  -- a call that has nothing to be decided is done
  pub draws_idle : done ≡ true → (sights k).phase ≡ Open → ((p : Place) (b : ℕ) → given (diff (sights k).call p b) ≡ false) → ((B : Block) → turn (latest (sights k).call.entries) B ≡ None)
      → (sights' : ℕ → Sight) → Turned sights sights' k (record (sights k) { phase = Idle }) → Bits sh L o (record cells { counter = suc cells.counter }) sights' (longer g log' who' decided')
  draws_idle e ph none_ turns sights' t = let f = at_phase sh L o cells sights g x k ink Open ph in
      goes_on sh L o cells sights g x k ink (settled o g) (record cells { counter = suc cells.counter }) (record (sights k) { phase = Idle }) (longer g log' who' decided') sights' (settled_same (λ p b. inr (none_ p b))) (around (λ p b. inr (none_ p b))) record {
        hold = record { locks = f.hold.locks; reading = f.hold.reading; found = f.hold.found; here = f.hold.here; found_here = f.hold.found_here; mine = f.hold.mine; holds = f.hold.holds; class = f.hold.class; span = f.hold.span; first = f.hold.first; zone = f.hold.zone; making = f.hold.making; free = f.hold.free; seen = f.hold.seen };
        bits = f.bits;
        picture = f.picture;
        turns = turns;
        call = record { flight = tt; todo = f.call.todo; descr = f.call.descr };
        reach = f.reach;
        plain = f.plain;
        logged = f.logged;
        stored = f.stored;
        fresh = f.fresh;
        sizes = f.sizes;
        born = λ y. absurd (both_ways false refl y);
        guarded = λ y. absurd (both_ways false refl y);
        soiled = f.soiled;
      } (rest Idle (λ n l u q. ⊎_elim (λ (s : n ≡ g.length). both_ways (decided' g.length) (sym (ap decided' s) ∙ u) (w.decided_here ∙ e))
      (λ (s : n ≢ g.length). let l' : n < g.length = omega arith in subst (λ z. flies_at z n) (ap (λ i. (sights i).phase) (sym (w.who_else n l') ∙ q) ∙ ph) (x.flying n l' (sym (w.decided_else n l') ∙ u))) (cases_eq n g.length))) t
