-- The locks of a plan are taken, one after another, or the first of them.
use Rattle.std.proofs.Common.{◌≡◌, ℕ, zero, suc, ◌+◌, ◌<◌, ◌≤◌, All, Bool, true, false, eqb, Contains, List, [], ◌∷◌, ◌++◌, map, take, get_or, length, length-take, None, refl, sym, ap, ◌∙◌, subst, arith}
use Rattle.std.specs.List.{AllByRecursion}
use Rattle.std.proofs.lemmas.Bool.{ne_eqb, or_from}
use Rattle.std.proofs.lemmas.List.{length-map}
use Rattle.std.proofs.lemmas.List.Elements.{Contains-append_right}
use Rattle.solo_view.specs.Founds.{FoundAlone}
use Rattle.solo_view.specs.View.{View, Lock}
use Rattle.solo_view.specs.Views.{after}
use Rattle.solo_world.specs.Lanes.{IsOfShape, lock_of}
use Rattle.solo_world.specs.Lawful.{Allowed, is_holder}
use Rattle.solo_world.specs.declared.lane.HeldLock.{HeldLock}
use Rattle.solo_world.specs.declared.lane.Lane.{Lane}
use Rattle.solo_lock.proofs.Leads.{led_none, led_once, led_then}
use Rattle.solo_lock.proofs.PlannedLocks.{all_at}
use Rattle.solo_lock.proofs.Taken.{may_take}
use Rattle.solo_lock.specs.Begun.{IsBegun}
use Rattle.solo_lock.specs.Locking.{HasNotTaken, HasTaken, HoldsUnfound, IsFreeLine, no_lock, takes}
use Rattle.solo_lock.specs.Leading.{IsLed}
use Rattle.solo_lock.specs.Plans.{IsChunkLine, Rises, unfound}

abbrev pub first_taken : List HeldLock → ℕ → List Lock
first_taken plan i = map lock_of (map unfound (take i plan))

-- the first so many are taken
pub record IsTaking {M : Type 0} (at : M → View → Type 0) (old lane : Lane M) (plan : List HeldLock) (i : ℕ) : Type 0 where
  pub taken : (v : View) → IsBegun at old v → HasTaken at lane v (first_taken plan i)
  pub else_same : lane ≡ record old { memory = lane.memory; locks = lane.locks }

-- of the locks in front of a line's none is of the line
front_free : (plan : List HeldLock) (i : ℕ) → i < length plan → Rises plan → is_holder (first_taken plan i) (get_or plan i no_lock).line ≡ false
unfolding Rises
front_free [] i low rises = absurd (omega (arith, low))
front_free (l ∷ plan) zero low rises = refl
front_free (l ∷ plan) (suc i) low rises =
    let inner : i < length plan = omega (arith, low) in
    let less : l.line < (get_or plan i no_lock).line = all_at (λ (k : HeldLock). l.line < k.line) plan i inner rises.0 in
    or_from (eqb l.line (get_or plan i no_lock).line) (is_holder (first_taken plan i) (get_or plan i no_lock).line) (ne_eqb l.line (get_or plan i no_lock).line (λ same. omega (arith, same, less))) (front_free plan i inner rises.1)

first_more : (plan : List HeldLock) (i : ℕ) → i < length plan → first_taken plan (i + 1) ≡ first_taken plan i ++ lock_of (unfound (get_or plan i no_lock)) ∷ []
first_more plan i low = ap (λ n. first_taken plan n) (let e : i + 1 ≡ suc i = omega arith in e) ∙ at plan i low where
  at : (plan : List HeldLock) (i : ℕ) → i < length plan → first_taken plan (suc i) ≡ first_taken plan i ++ lock_of (unfound (get_or plan i no_lock)) ∷ []
  at [] i low = absurd (omega (arith, low))
  at (l ∷ plan) zero low = refl
  at (l ∷ plan) (suc i) low = ap (λ (ls : List Lock). lock_of (unfound l) ∷ ls) (at plan i (omega (arith, low)))

-- one try of a lock
led_take : (v : View) (line : ℕ) (write won : Bool) → Allowed v (takes line write won) → FoundAlone v (takes line write won) → IsLed v (after v (takes line write won))
led_take v line true won may found = led_once v (takes line true won) may found tt refl (record { zone_locks = refl; reserved = refl; freed = refl })
led_take v line false won may found = led_once v (takes line false won) may found tt refl (record { zone_locks = refl; reserved = refl; freed = refl })

lost_locks : (v : View) (line : ℕ) (write : Bool) → (after v (takes line write false)).locks ≡ v.locks
lost_locks v line true = refl
lost_locks v line false = refl

won_locks : (v : View) (line : ℕ) (write : Bool) → (after v (takes line write true)).locks ≡ v.locks ++ record { line = line; write = write; block = None } ∷ []
won_locks v line true = refl
won_locks v line false = refl

tried_seen : (v : View) (line : ℕ) (write won : Bool) → (after v (takes line write won)).seen ≡ v.seen ++ takes line write won ∷ []
tried_seen v line true won = refl
tried_seen v line false won = refl

tried_entries : (v : View) (line : ℕ) (write won : Bool) → (after v (takes line write won)).entries ≡ v.entries
tried_entries v line true won = refl
tried_entries v line false won = refl

none_in : (locks : List HeldLock) (k : ℕ) (d : Lock) → k < length (map lock_of (map unfound locks)) → (get_or (map lock_of (map unfound locks)) k d).block ≡ None
none_in [] k d low = absurd (omega (arith, low))
none_in (l ∷ locks) zero d low = refl
none_in (l ∷ locks) (suc k) d low = none_in locks k d (omega (arith, low))

none_found : (plan : List HeldLock) (i : ℕ) → All (λ (l : Lock). l.block ≡ None) (first_taken plan i)
none_found plan i = none_in (take i plan)

-- no block was found under the locks of a plan that were all taken
pub taken_unfound : {M : Type 0} (at : M → View → Type 0) (lane : Lane M) (v : View) (plan : List HeldLock) → (t : HasTaken at lane v (map lock_of (map unfound plan))) → HoldsUnfound at lane t.view
taken_unfound at lane v plan t = record { begun = t.begun; unfound = subst (All (λ (l : Lock). l.block ≡ None)) (sym t.locks_are) (none_in plan) }

pub take_begins : {M : Type 0} (at : M → View → Type 0) (lane : Lane M) (plan : List HeldLock) → lane.locks.items ≡ [] → IsTaking at lane lane plan 0
take_begins at lane plan free = record {
  taken = λ v is. record { view = v; led = led_none v; begun = is; locks_are = sym is.seen.locks ∙ ap (map lock_of) free; entries = refl };
  else_same = refl;
}

module _ {M : Type 0} (at : M → View → Type 0) (old lane : Lane M) (plan : List HeldLock) (i : ℕ) (low : i < length plan) (rises : Rises plan) (chunks : AllByRecursion (IsChunkLine old.shape.lanes old.shape.zones) plan) (is : IsTaking at old lane plan i) where
  abbrev held : HeldLock
  held = get_or plan i no_lock

  free_line : (v : View) → (t : HasTaken at lane v (first_taken plan i)) → IsFreeLine t.view held.line
  free_line v t =
      let shape : IsOfShape t.view old.shape = subst (IsOfShape t.view) (ap (λ (l : Lane M). l.shape) is.else_same) t.begun.seen.shape in
      record {
        inside = (let chunk = (all_at (IsChunkLine old.shape.lanes old.shape.zones) plan i low chunks).1 in let size = shape.size in omega (arith, chunk, size));
        free = ap (λ (locks : List Lock). is_holder locks held.line) t.locks_are ∙ front_free plan i low rises;
      }

  pub may_try : (v : View) → IsBegun at old v → (u : View) × (IsBegun at lane u × IsFreeLine u held.line)
  may_try v begun = let t = is.taken v begun in (t.view, (t.begun, free_line v t))

  pub room : (v : View) → IsBegun at old v → length plan ≤ 64 → length lane.locks.items < 64
  room v begun few =
      let t = is.taken v begun in
      let a = length-map lane.locks.items lock_of in
      let b = ap length (t.begun.seen.locks ∙ t.locks_are) in
      let c = length-map (map unfound (take i plan)) lock_of in
      let d = length-map (take i plan) unfound in
      let e = length-take i plan in
      omega (arith, a, b, c, d, e, low, few)

  module _ (new : Lane M) (won : Bool) (found : (v : View) → at lane.memory v → FoundAlone v (takes held.line held.write won)) (begun : (v : View) → IsBegun at lane v → IsFreeLine v held.line → IsBegun at new (after v (takes held.line held.write won))) where
    next : (v : View) → IsBegun at old v → (t : HasTaken at lane v (first_taken plan i)) → IsLed v (after t.view (takes held.line held.write won))
    next v was t =
        led_then v t.view (after t.view (takes held.line held.write won)) t.led
        (led_take t.view held.line held.write won (may_take at lane t.view t.begun held.line (free_line v t) held.write won) (found t.view t.begun.seen.memory))

    pub lost : won ≡ false → (v : View) → IsBegun at old v → HasNotTaken at new v
    lost not v was =
        let t = is.taken v was in
        let w : View = after t.view (takes held.line held.write won) in
        let lost_so : takes held.line held.write won ≡ takes held.line held.write false = ap (takes held.line held.write) not in
        record {
          view = w;
          led = next v was t;
          held = record {
            begun = begun t.view t.begun (free_line v t);
            unfound = subst (All (λ (l : Lock). l.block ≡ None)) (sym (ap (λ s. (after t.view s).locks) lost_so ∙ lost_locks t.view held.line held.write ∙ t.locks_are)) (none_found plan i);
          };
          entries = tried_entries t.view held.line held.write won ∙ t.entries;
          line = held.line;
          write = held.write;
          refused = subst (λ seen. Contains seen (takes held.line held.write false)) (sym (tried_seen t.view held.line held.write won))
              (Contains-append_right t.view.seen (takes held.line held.write won ∷ []) (takes held.line held.write false) (0, omega arith, lost_so));
        }

    pub taken_more : won ≡ true → new ≡ record lane { memory = new.memory; locks = new.locks } → IsTaking at old new plan (i + 1)
    taken_more won_so same = record {
      taken = λ v was.
          let t = is.taken v was in
          record {
            view = after t.view (takes held.line held.write won);
            led = next v was t;
            begun = begun t.view t.begun (free_line v t);
            locks_are =
                ap (λ b. (after t.view (takes held.line held.write b)).locks) won_so ∙ won_locks t.view held.line held.write
                ∙ ap (λ (locks : List Lock). locks ++ record { line = held.line; write = held.write; block = None } ∷ []) t.locks_are ∙ sym (first_more plan i low);
            entries = tried_entries t.view held.line held.write won ∙ t.entries;
          };
      else_same = same ∙ ap (λ (l : Lane M). record l { memory = new.memory; locks = new.locks }) is.else_same;
    }
