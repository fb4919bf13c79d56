-- Tries and waits: what they leave of a view.
use Rattle.std.proofs.Common.{◌≡◌, ℕ, zero, suc, ◌+◌, Bool, true, false, List, [], ◌∷◌, ◌++◌, refl, sym, ap, ◌∙◌, subst, arith}
use Rattle.pm_view.specs.Steps.{Step}
use Rattle.pm_view.specs.Steps.Step.{StopSeen}
use Rattle.pm_view.specs.Claims.{Took}
use Rattle.pm_view.specs.View.{View}
use Rattle.pm_view.specs.Views.{after, after_all}
use Rattle.pm_world.specs.Lawful.{MayTake}
use Rattle.pm_lock.specs.Steps.{refusals, stops, takes, waits}

pub all_then : (v : View) (first second : List Step) → after_all v (first ++ second) ≡ after_all (after_all v first) second
unfolding after_all
all_then v [] second = refl
all_then v (s ∷ first) second = all_then (after v s) first second

pub once_more : (u : View) (s : Step) → after_all u (s ∷ []) ≡ after u s
unfolding after_all
once_more u s = refl

pub twice_more : (u : View) (s t : Step) → after_all u (s ∷ t ∷ []) ≡ after (after u s) t
unfolding after_all
twice_more u s t = refl

-- a view of which only what was seen is other
abbrev pub IsTried : View → View → Type 0
IsTried v u = u ≡ record v { seen = u.seen }

refused_so : (v : View) (line : ℕ) (write : Bool) → after v (takes line write false) ≡ record v { seen = takes line write false ∷ v.seen }
refused_so v line true = refl
refused_so v line false = refl

pub taken_so : (v : View) (line : ℕ) (write : Bool) → after v (takes line write true) ≡ record v { claims = Took line write ∷ v.claims; seen = takes line write true ∷ v.seen }
taken_so v line true = refl
taken_so v line false = refl

tried_on : (v w u : View) → IsTried v w → IsTried w u → IsTried v u
tried_on v w u a b = b ∙ ap (λ (y : View). record y { seen = u.seen }) a

refused_try : (v : View) (line : ℕ) (write : Bool) → IsTried v (after v (takes line write false))
refused_try v line true = refl
refused_try v line false = refl

pub refusals_try : (n : ℕ) (v : View) (line : ℕ) (write : Bool) → IsTried v (after_all v (refusals n line write))
unfolding refusals after_all
refusals_try zero v line write = refl
refusals_try (suc n) v line write =
    let one : View = after v (takes line write false) in
    let two : View = after one (StopSeen false) in
    tried_on v two (after_all two (refusals n line write)) (tried_on v one two (refused_try v line write) refl) (refusals_try n two line write)

pub may_still : (v u : View) (line : ℕ) → IsTried v u → MayTake v line → MayTake u line
may_still v u line e may = subst (λ (y : View). MayTake y line) (sym e) (record { inside = may.inside; free = may.free; early = may.early })

-- one more
pub refusals_more : (n line : ℕ) (write : Bool) → refusals n line write ++ takes line write false ∷ StopSeen false ∷ [] ≡ refusals (n + 1) line write
unfolding refusals
refusals_more zero line write = ap (λ m. refusals m line write) (let e : 1 ≡ zero + 1 = omega arith in e)
refusals_more (suc n) line write = ap (λ l. takes line write false ∷ StopSeen false ∷ l) (refusals_more n line write) ∙ ap (λ m. refusals m line write) (let e : suc (n + 1) ≡ suc n + 1 = omega arith in e)

-- THE LOCK IS HELD after a wait
pub waited_so : (n : ℕ) (v : View) (line : ℕ) (write : Bool) → after_all v (waits n line write) ≡ record v { claims = Took line write ∷ v.claims; seen = (after_all v (waits n line write)).seen }
unfolding waits
waited_so n v line write =
    let u : View = after_all v (refusals n line write) in
    let e : after_all v (refusals n line write ++ takes line write true ∷ []) ≡ after u (takes line write true) = all_then v (refusals n line write) (takes line write true ∷ []) ∙ once_more u (takes line write true) in
    e ∙ (taken_so u line write ∙ (ap (λ (y : View). record y { claims = Took line write ∷ y.claims; seen = takes line write true ∷ u.seen }) (refusals_try n v line write)
    ∙ ap (λ seen. record v { claims = Took line write ∷ v.claims; seen = seen }) (sym (ap (λ (y : View). y.seen) (e ∙ taken_so u line write)))))

module _ (at : View → Type 0) (v : View) (n line : ℕ) (write : Bool) where
  -- the memory after one step more, or two
  pub got_now : at (after (after_all v (refusals n line write)) (takes line write true)) → at (after_all v (waits n line write))
  unfolding waits
  got_now seen = subst at (sym (all_then v (refusals n line write) (takes line write true ∷ []) ∙ once_more (after_all v (refusals n line write)) (takes line write true))) seen

  pub stopped_now : at (after (after (after_all v (refusals n line write)) (takes line write false)) (StopSeen true)) → at (after_all v (stops n line write))
  unfolding stops
  stopped_now seen = subst at (sym (all_then v (refusals n line write) (takes line write false ∷ StopSeen true ∷ []) ∙ twice_more (after_all v (refusals n line write)) (takes line write false) (StopSeen true))) seen

  pub refused_now : at (after (after (after_all v (refusals n line write)) (takes line write false)) (StopSeen false)) → at (after_all v (refusals (n + 1) line write))
  refused_now seen = subst at (sym (ap (after_all v) (sym (refusals_more n line write)) ∙ (all_then v (refusals n line write) (takes line write false ∷ StopSeen false ∷ []) ∙ twice_more (after_all v (refusals n line write)) (takes line write false) (StopSeen false)))) seen

pub none_refused : (at : View → Type 0) (v : View) (line : ℕ) (write : Bool) → at v → at (after_all v (refusals 0 line write))
unfolding refusals after_all
none_refused at v line write seen = seen
