-- Replays at one bit.
use Rattle.std.proofs.Common.{◌≡◌, ◌≢◌, ℕ, zero, suc, ◌<◌, ◌⊎◌, ⊎_elim, Bool, true, false, cond, refl, sym, ap, ◌∙◌, arith, eq-eqb, ne_eqb, Option, None, Some}
use Rattle.std.proofs.lemmas.Bool.{cases_eq, both_ways}
use Rattle.pm_view.specs.Places.{Place}
use Rattle.pm_world.specs.States.{State, Call, diff, over, given, replay, put1}

pub put1_here : {A : Type 0} → (f : ℕ → A) (n : ℕ) (a : A) → put1 f n a n ≡ a
put1_here f n a = ap (λ t. cond t a (f n)) (eq-eqb n n refl)

pub put1_else : {A : Type 0} → (f : ℕ → A) (n : ℕ) (a : A) (m : ℕ) → m ≢ n → put1 f n a m ≡ f m
put1_else f n a m ne = ap (λ t. cond t a (f m)) (ne_eqb m n ne)

pub over_none : (d : Option Bool) (r : Bool) → given d ≡ false → over d r ≡ r
over_none None r e = refl
over_none (Some y) r e = absurd (both_ways true e refl)

same_cond : (t r : Bool) → cond t r r ≡ r
same_cond true r = refl
same_cond false r = refl

pub skips : (t : Bool) (d : Option Bool) (r : Bool) → given d ≡ false → cond t (over d r) r ≡ r
skips t d r e = ap (λ z. cond t z r) (over_none d r e) ∙ same_cond t r

-- two replays agree at a bit where the calls make the same of it and either are kept alike or make nothing of it
pub replay_same : (keep keep' : ℕ → Bool) (o : State) (log log' : ℕ → Call) (p : Place) (b n : ℕ)
    → ((m : ℕ) → m < n → (diff (log' m) p b ≡ diff (log m) p b) × ((keep' m ≡ keep m) ⊎ (given (diff (log m) p b) ≡ false))) → replay keep' o log' n p b ≡ replay keep o log n p b
replay_same keep keep' o log log' p b zero h = refl
replay_same keep keep' o log log' p b (suc n) h = go (h n (omega arith)) (replay_same keep keep' o log log' p b n (λ m l. h m (omega arith)))
  where
    go : (diff (log' n) p b ≡ diff (log n) p b) × ((keep' n ≡ keep n) ⊎ (given (diff (log n) p b) ≡ false)) → replay keep' o log' n p b ≡ replay keep o log n p b → replay keep' o log' (suc n) p b ≡ replay keep o log (suc n) p b
    go t r = let x = replay keep' o log' n p b in let y = replay keep o log n p b in let d = diff (log n) p b in ap (λ z. cond (keep' n) (over z x) x) t.0 ∙ (ap (λ z. cond (keep' n) (over d z) z) r
        ∙ ⊎_elim (λ (e : keep' n ≡ keep n). ap (λ z. cond z (over d y) y) e) (λ (e : given d ≡ false). skips (keep' n) d y e ∙ sym (skips (keep n) d y e)) t.1)

-- the last kept call that makes something of a bit has made it
pub replay_last : (keep : ℕ → Bool) (o : State) (log : ℕ → Call) (p : Place) (b n m : ℕ) (y : Bool) → m < n → keep m ≡ true → diff (log m) p b ≡ Some y
    → ((l : ℕ) → m < l → l < n → given (diff (log l) p b) ≡ false) → replay keep o log n p b ≡ y
replay_last keep o log p b zero m y l k d h = absurd (omega arith)
replay_last keep o log p b (suc n) m y l k d h = go (λ l'. replay_last keep o log p b n m y l' k d (λ i a c. h i a (omega arith))) (cases_eq m n)
  where
    go : (m < n → replay keep o log n p b ≡ y) → (m ≡ n) ⊎ (m ≢ n) → replay keep o log (suc n) p b ≡ y
    go r t = let x = replay keep o log n p b in ⊎_elim (λ (e : m ≡ n). ap (λ z. cond z (over (diff (log n) p b) x) x) (sym (ap keep e) ∙ k) ∙ ap (λ z. over z x) (sym (ap (λ i. diff (log i) p b) e) ∙ d))
        (λ (ne : m ≢ n). skips (keep n) (diff (log n) p b) x (h n (omega arith) (omega arith)) ∙ r (omega arith)) t
