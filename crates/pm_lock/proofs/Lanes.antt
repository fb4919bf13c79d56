-- How a lane's list of locks goes with its memory.
use Rattle.std.proofs.Common.{◌≡◌, ℕ, ◌+◌, ◌<◌, ◌≤◌, Bool, true, false, List, [], ◌∷◌, ◌++◌, length, take, refl, sym, ap, ◌∙◌, subst, arith, rules, Result, Ok, Err, IsErr, length-append}
use Rattle.std.specs.Prelude.{drop, slice_set}
use Rattle.std.specs.List.{refill}
use Rattle.std.proofs.lemmas.List.{append_assoc, append-nil, take-append-le, take_all, take_more, length-take-le, map-append}
use Rattle.pm_memory.specs.declared.lane_mem.Stopped.{Stopped}
use Rattle.pm_view.specs.Founds.{Found}
use Rattle.pm_view.specs.Steps.{Step}
use Rattle.pm_view.specs.Steps.Step.{Raise}
use Rattle.pm_view.specs.View.{View}
use Rattle.pm_view.specs.Views.{after, after_all}
use Rattle.pm_world.specs.Lawful.{MayRaise, MayTake}
use Rattle.pm_world.specs.declared.lane.HeldLock.{HeldLock}
use Rattle.pm_world.specs.declared.lane.Lane.{Lane}
use Rattle.pm_lock.specs.Holding.{MayTakeAll}
use Rattle.pm_lock.specs.Locking.{AllLocked, AllTried, HasGrown, HasOnlyStepped, Locked, Raised, Stands, Tried, Waited, lock_at, lock_of, no_lock}
use Rattle.pm_lock.specs.Steps.{AreWaits, stops, takes, tries, waits}
use Rattle.pm_lock.proofs.Holds.{may_next, no_waits, tries_taken, waits_snoc, waits_taken}
use Rattle.pm_lock.proofs.Waiting.{all_then}

-- a list that grew by some locks, and by one more
grown_on : {M : Type 0} (old mid new : Lane M) (first : List HeldLock) (l : HeldLock) → HasGrown first old mid → HasGrown (l ∷ []) mid new → HasGrown (first ++ l ∷ []) old new
grown_on old mid new first l a b = (b.0 ∙ ap (λ (y : Lane _). record y { memory = new.memory; locks = new.locks }) a.0, b.1 ∙ (ap (λ ls. ls ++ l ∷ []) a.1 ∙ append_assoc old.locks.items first (l ∷ [])))

module _ {M : Type 0} (at : M → View → Type 0) (line : ℕ) (write : Bool) where
  -- ---- one try
  pub tried_won : (old : Lane M) (memory : M) (new : Lane M) (won : Bool) → won ≡ true → ((v : View) → at old.memory v → MayTake v line → at memory (after v (takes line write won)) × Found v (takes line write won)) → new ≡ record old { memory = memory; locks = new.locks } → new.locks.items ≡ old.locks.items ++ lock_of line write ∷ [] → Tried at line write old new won
  unfolding Tried
  tried_won old memory new true e made is grown v seen may = (subst (λ m. at m (after v (takes line write true))) (sym (ap (λ (l : Lane M). l.memory) is)) (made v seen may).0, (made v seen may).1, (is ∙ ap (λ m. record old { memory = m; locks = new.locks }) (sym (ap (λ (l : Lane M). l.memory) is)), grown))
  tried_won old memory new false e made is grown v seen may = absurd (Rattle.std.proofs.lemmas.Bool.both_ways false refl e)

  pub tried_lost : (old : Lane M) (memory : M) (won : Bool) → won ≡ false → ((v : View) → at old.memory v → MayTake v line → at memory (after v (takes line write won)) × Found v (takes line write won)) → Tried at line write old (record old { memory = memory }) won
  unfolding Tried
  tried_lost old memory false e made v seen may = (let t = made v seen may in (t.0, t.1, refl))
  tried_lost old memory true e made v seen may = absurd (Rattle.std.proofs.lemmas.Bool.both_ways true e refl)

  -- ---- a wait
  pub locked_ok : (old : Lane M) (memory : M) (new : Lane M) → Waited at line write old.memory memory (Ok tt) → new ≡ record old { memory = memory; locks = new.locks } → new.locks.items ≡ old.locks.items ++ lock_of line write ∷ [] → Locked at line write old new (Ok tt)
  unfolding Waited Locked
  locked_ok old memory new waited is grown v seen may = let w = waited v seen may in
      ((w.0, subst (λ m. at m (after_all v (waits w.0 line write))) (sym (ap (λ (l : Lane M). l.memory) is)) w.1), (is ∙ ap (λ m. record old { memory = m; locks = new.locks }) (sym (ap (λ (l : Lane M). l.memory) is)), grown))

  pub locked_err : (old : Lane M) (memory : M) (stopped : Stopped) (result : Result (Unit {0}) Stopped) → IsErr result → Waited at line write old.memory memory (Err stopped) → Locked at line write old (record old { memory = memory }) result
  unfolding Waited Locked
  locked_err old memory stopped (Ok done) error waited v seen may = absurd (search rules)
  locked_err old memory stopped (Err e) error waited v seen may = (waited v seen may, refl)

module _ {M : Type 0} (at : M → View → Type 0) (locks : List HeldLock) (old : Lane M) where
  -- ---- so many were waited for
  abbrev pub HasLocked : ℕ → Lane M → Type 0
  HasLocked k lane = (v : View) → at old.memory v → MayTakeAll v locks → ((steps : List Step) × AreWaits (take k locks) steps × at lane.memory (after_all v steps)) × HasGrown (take k locks) old lane

  pub locked_none : HasLocked 0 old
  unfolding after_all
  locked_none v seen may = (([], no_waits, seen), (refl, sym (append-nil old.locks.items)))

  module _ (k : ℕ) (lane : Lane M) (has : HasLocked k lane) (low : k < length locks) (s : Stands at old (λ v. MayTakeAll v locks)) where
    next : (v : View) → at old.memory v → MayTakeAll v locks → (u : View) × at lane.memory u × MayTake u (lock_at locks k).line
    next v seen may = let h = has v seen may in let steps : List Step = h.0.0 in
        (after_all v steps, h.0.2, may_next v (after_all v steps) locks k may low (waits_taken v (take k locks) steps h.0.1))

    pub lock_next : Stands at lane (λ v. MayTake v (lock_at locks k).line)
    lock_next = next s.0 s.1 s.2

    pub lock_room : length old.locks.items + length locks ≤ 64 → length lane.locks.items < 64
    lock_room few = let h = has s.0 s.1 s.2 in let a = ap length h.1.1 in let b = length-append old.locks.items (take k locks) in let c = length-take-le k locks (omega (arith, low)) in omega (arith, few, low, a, b, c)

    pub locked_more : (new : Lane M) → Locked at (lock_at locks k).line (lock_at locks k).write lane new (Ok tt) → HasLocked (k + 1) new
    unfolding Locked
    locked_more new step v seen may =
        let h = has v seen may in let steps : List Step = h.0.0 in
        let t = step (after_all v steps) h.0.2 (may_next v (after_all v steps) locks k may low (waits_taken v (take k locks) steps h.0.1)) in
        let more : take (k + 1) locks ≡ take k locks ++ lock_at locks k ∷ [] = take_more locks k no_lock low in
        subst (λ (ls : List HeldLock). ((ss : List Step) × AreWaits ls ss × at new.memory (after_all v ss)) × HasGrown ls old new) (sym more) (
          (
            steps ++ waits t.0.0 (lock_at locks k).line (lock_at locks k).write,
            waits_snoc (take k locks) steps (lock_at locks k) t.0.0 h.0.1,
            subst (at new.memory) (sym (all_then v steps (waits t.0.0 (lock_at locks k).line (lock_at locks k).write))) t.0.1,
          ),
          grown_on old lane new (take k locks) (lock_at locks k) h.1 t.1,
        )

    pub locked_up : (new : Lane M) (stopped : Stopped) (result : Result (Unit {0}) Stopped) → IsErr result → Locked at (lock_at locks k).line (lock_at locks k).write lane new (Err stopped) → AllLocked at locks old new result
    unfolding Locked AllLocked
    locked_up new stopped (Ok done) error step v seen may = absurd (search rules)
    locked_up new stopped (Err e) error step v seen may =
        let h = has v seen may in let steps : List Step = h.0.0 in
        let t = step (after_all v steps) h.0.2 (may_next v (after_all v steps) locks k may low (waits_taken v (take k locks) steps h.0.1)) in
        (k, low, (steps, t.0.0, h.0.1, subst (at new.memory) (sym (all_then v steps (stops t.0.0 (lock_at locks k).line (lock_at locks k).write))) t.0.1, t.0.2), stepped lane new (take k locks) h.1 t.1)
      where
        stepped : (mid new : Lane M) (ls : List HeldLock) → HasGrown ls old mid → HasOnlyStepped mid new → HasGrown ls old new
        stepped mid new ls a b = (b ∙ (ap (λ (y : Lane M). record y { memory = new.memory }) a.0 ∙ ap (λ locks. record old { memory = new.memory; locks = locks }) (sym (ap (λ (y : Lane M). y.locks) b))), ap (λ (y : Lane M). y.locks.items) b ∙ a.1)

  pub all_locked : (k : ℕ) (lane : Lane M) → HasLocked k lane → k ≡ length locks → AllLocked at locks old lane (Ok tt)
  unfolding AllLocked
  all_locked k lane has up v seen may = subst (λ (ls : List HeldLock). ((ss : List Step) × AreWaits ls ss × at lane.memory (after_all v ss)) × HasGrown ls old lane) (take_all k locks (omega (arith, up))) (has v seen may)

  -- ---- so many were got at one try each
  abbrev pub HasTried : ℕ → Lane M → Type 0
  HasTried k lane = (v : View) → at old.memory v → MayTakeAll v locks → at lane.memory (after_all v (tries (take k locks))) × HasGrown (take k locks) old lane

  pub tried_none : HasTried 0 old
  unfolding after_all
  tried_none v seen may = (seen, (refl, sym (append-nil old.locks.items)))

  module _ (k : ℕ) (lane : Lane M) (has : HasTried k lane) (low : k < length locks) (s : Stands at old (λ v. MayTakeAll v locks)) where
    next_try : (v : View) → at old.memory v → MayTakeAll v locks → MayTake (after_all v (tries (take k locks))) (lock_at locks k).line
    next_try v seen may = may_next v (after_all v (tries (take k locks))) locks k may low (tries_taken v (take k locks))

    pub try_next : Stands at lane (λ v. MayTake v (lock_at locks k).line)
    try_next = (after_all s.0 (tries (take k locks)), (has s.0 s.1 s.2).0, next_try s.0 s.1 s.2)

    pub try_room : length old.locks.items + length locks ≤ 64 → length lane.locks.items < 64
    try_room few = let h = has s.0 s.1 s.2 in let a = ap length h.1.1 in let b = length-append old.locks.items (take k locks) in let c = length-take-le k locks (omega (arith, low)) in omega (arith, few, low, a, b, c)

    pub tried_more : (new : Lane M) (won : Bool) → won ≡ true → Tried at (lock_at locks k).line (lock_at locks k).write lane new won → HasTried (k + 1) new
    unfolding Tried after_all
    tried_more new false e step v seen may = absurd (Rattle.std.proofs.lemmas.Bool.both_ways false refl e)
    tried_more new true e step v seen may =
        let h = has v seen may in
        let t = step (after_all v (tries (take k locks))) h.0 (next_try v seen may) in
        subst (λ (ls : List HeldLock). at new.memory (after_all v (tries ls)) × HasGrown ls old new) (sym (take_more locks k no_lock low))
        (subst (at new.memory) (sym (ap (after_all v) (map-append (λ (l : HeldLock). takes l.line l.write true) (take k locks) (lock_at locks k ∷ [])) ∙ all_then v (tries (take k locks)) (takes (lock_at locks k).line (lock_at locks k).write true ∷ []))) t.0, grown_on old lane new (take k locks) (lock_at locks k) h.1 t.2)

    pub tried_up : (new : Lane M) (won : Bool) → won ≡ false → Tried at (lock_at locks k).line (lock_at locks k).write lane new won → AllTried at locks old new false
    unfolding Tried AllTried after_all
    tried_up new true e step v seen may = absurd (Rattle.std.proofs.lemmas.Bool.both_ways true e refl)
    tried_up new false e step v seen may =
        let h = has v seen may in
        let t = step (after_all v (tries (take k locks))) h.0 (next_try v seen may) in
        (k, low, subst (at new.memory) (sym (all_then v (tries (take k locks)) (takes (lock_at locks k).line (lock_at locks k).write false ∷ []))) t.0, t.1, stepped lane new (take k locks) h.1 t.2)
      where
        stepped : (mid new : Lane M) (ls : List HeldLock) → HasGrown ls old mid → HasOnlyStepped mid new → HasGrown ls old new
        stepped mid new ls a b = (b ∙ (ap (λ (y : Lane M). record y { memory = new.memory }) a.0 ∙ ap (λ locks. record old { memory = new.memory; locks = locks }) (sym (ap (λ (y : Lane M). y.locks) b))), ap (λ (y : Lane M). y.locks.items) b ∙ a.1)

  pub all_tried : (k : ℕ) (lane : Lane M) → HasTried k lane → k ≡ length locks → AllTried at locks old lane true
  unfolding AllTried
  all_tried k lane has up v seen may = subst (λ (ls : List HeldLock). at lane.memory (after_all v (tries ls)) × HasGrown ls old lane) (take_all k locks (omega (arith, up))) (has v seen may)

-- ---- a lock is raised
pub refilled : (items ws : List HeldLock) → length ws ≡ length items → refill (length items) items ws ≡ ws
refilled items ws e = take-append-le (length items) ws (drop (length ws) items) (omega (arith, e)) ∙ take_all (length items) ws (omega (arith, e))

module _ {M : Type 0} (at : M → View → Type 0) (old : Lane M) (i line : ℕ) (is_line : line ≡ (lock_at old.locks.items i).line) (memory : M) where
  pub raise_stands : Stands at old (λ v. MayRaise v (lock_at old.locks.items i).line) → (v : View) × at old.memory v × MayRaise v line
  raise_stands s = (s.0, s.1, subst (MayRaise s.0) (sym is_line) s.2)

  pub raised_won : (new : Lane M) (won : Bool) → won ≡ true → ((v : View) → at old.memory v → MayRaise v line → at memory (after v (Raise line won)) × Found v (Raise line won)) → new ≡ record old { memory = memory; locks = new.locks }
      → new.locks.items ≡ slice_set old.locks.items i (lock_of (lock_at old.locks.items i).line true) → Raised at i old new won
  unfolding Raised
  raised_won new false e made is items v seen may = absurd (Rattle.std.proofs.lemmas.Bool.both_ways false refl e)
  raised_won new true e made is items v seen may = (
    subst (λ m. at m (after v (Raise (lock_at old.locks.items i).line true))) (sym (ap (λ (l : Lane M). l.memory) is)) (subst (λ l. at memory (after v (Raise l true))) is_line (made v seen (subst (MayRaise v) (sym is_line) may)).0),
    (made v seen (subst (MayRaise v) (sym is_line) may)).1,
    is ∙ ap (λ m. record old { memory = m; locks = new.locks }) (sym (ap (λ (l : Lane M). l.memory) is)),
    items,
  )

  pub raised_lost : (won : Bool) → won ≡ false → ((v : View) → at old.memory v → MayRaise v line → at memory (after v (Raise line won)) × Found v (Raise line won)) → Raised at i old (record old { memory = memory }) won
  unfolding Raised
  raised_lost true e made v seen may = absurd (Rattle.std.proofs.lemmas.Bool.both_ways true e refl)
  raised_lost false e made v seen may = (subst (λ l. at memory (after v (Raise l false))) is_line (made v seen (subst (MayRaise v) (sym is_line) may)).0, (made v seen (subst (MayRaise v) (sym is_line) may)).1, refl)
