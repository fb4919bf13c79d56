-- How what the parts of a call came to makes what the call did.
use Rattle.std.proofs.Common.{◌≡◌, ◌≢◌, ℕ, zero, suc, ◌+◌, inl, inr, true, false, Some, None, Option, Result, Ok, Err, refl, sym, ap, subst, arith}
use Rattle.std.proofs.lemmas.Bool.{both_ways}
use Rattle.pm_model.specs.Inside.{is_action, is_inside}
use Rattle.pm_objects.specs.declared.calls.Operation.{Operation}
use Rattle.pm_objects.specs.declared.history.Value.TheVariants.{Refused}
use Rattle.pm_objects.specs.declared.refusal.Refusal.{Refusal}
use Rattle.pm_objects.specs.declared.refusal.Refusal.TheVariants as refusal
use Rattle.pm_view.specs.View.{View}
use Rattle.pm_world.specs.LaneFields.{Fields, Standing, Works, moved}
use Rattle.pm_world.specs.declared.lane.Lane.{Lane}
use Rattle.pm_crash.specs.Looked.{items_seen, pool_seen}
use Rattle.pm_crash.specs.Sim.{tx_with}
use Rattle.pm_plan.specs.Plans.{Plan}
use Rattle.pm_call.specs.At.{At}
use Rattle.pm_call.specs.Did.{Acted, After, Came, Checked, Cut, Did, DidSo, Ends, Found, GaveUp, IsAt, IsAtSo, IsRefused, Tried, WasUnwritten, next, unseen, work_refusal}
use Rattle.pm_call.specs.GivenUp.{GivesUp, GivesUpFor, IsAtBut, Refuses}
use Rattle.pm_call.specs.Held.{Looks}
use Rattle.pm_call.specs.Unwritten.{is_adding}
use Rattle.pm_call.proofs.Ending.{refusal_traced}

-- ---- looks, and then more of them
pub looks_more : (n m : ℕ) (v u w : View) → Looks n v u → Looks m u w → Looks (n + m) v w
unfolding Looks
looks_more zero m v u w first second = subst (λ k. Looks k v w) (let e : m ≡ 0 + m = omega arith in e) (subst (λ (z : View). Looks m z w) first second)
looks_more (suc n) m v u w first second = subst (λ k. Looks k v w) (let e : suc (n + m) ≡ suc n + m = omega arith in e) (first.0, first.1, looks_more n m first.0 u w first.2 second)

pub after_then : (s : Standing) (P : Standing → Type 0) → After s (λ t. After t P) → After s P
after_then s P a = let b = a.holds in record { looks = a.looks + b.looks; view = b.view; looked = looks_more a.looks b.looks s.view a.view b.view a.looked b.looked; holds = b.holds }

pub after_so : (s : Standing) (P Q : Standing → Type 0) → ((t : Standing) → P t → Q t) → After s P → After s Q
after_so s P Q so a = record { looks = a.looks; view = a.view; looked = a.looked; holds = so (moved s a.view) a.holds }

-- no operation of a lane at work is refused for a stop
pub no_stop : (s : Standing) (op : Operation) → At s → IsRefused s op refusal.Stopped → ⊥
no_stop s op is r = both_ways true
    (refusal_traced (tx_with s.view (pool_seen s.view None) (items_seen s.view)) is.lists.works (let e = is.lists.level_is in let l = is.some in omega (arith, e, l)) unseen op refusal.Stopped r.first) refl

module _ {M : Type 0} (at : M → View → Type 0) (old mid new : Lane M) (op : Operation) where
  -- a check found a reason
  refused_came : {T : Type 0} (lane : Lane M) (plan : View → Plan) (Is : View → T → Type 0) (r : Refusal) (s : Standing) → IsRefused s op r × Works at lane s × At s → Came {T = T} at lane op plan Is (Err r) s
  refused_came lane plan Is refusal.Stopped s f = absurd (no_stop s op f.2 f.0)
  refused_came lane plan Is r s f = f

  pub tried_err : {T : Type 0} (S : Type 0) (Q : Standing → S → Type 0) (plan : View → Plan) (Is : View → T → Type 0) (r : Refusal) → Checked {T = S} at old mid Q op (Err r) → Tried {T = T} at old mid op plan Is (Err r)
  unfolding Checked Tried
  tried_err {T} S Q plan Is r checked s works is = after_so s (Found {T = S} at mid Q op (Err r)) (Came {T = T} at mid op plan Is (Err r)) (λ t f. refused_came mid plan Is r t f) (checked s works is)

  -- a check passed, and then the operation was made
  pub tried_then : {S T : Type 0} (Q : Standing → S → Type 0) (plan : View → Plan) (Is : View → T → Type 0) (x : S) (result : Result T Refusal)
      → Checked at old mid Q op (Ok x) → Acted at mid new (λ s. Q s x) op plan Is result → Tried at old new op plan Is result
  unfolding Checked Tried Acted
  tried_then Q plan Is x result checked acted s works is =
      after_then s (Came at new op plan Is result) (after_so s (Found at mid Q op (Ok x)) (λ t. After t (Came at new op plan Is result)) (λ t f. acted t f.1 f.2 f.0) (checked s works is))

  -- two checks, one after the other
  pub checked_then : {S T : Type 0} (Q : Standing → S → Type 0) (R : Standing → T → Type 0) (x : S) (result : Result T Refusal) → Checked at old mid Q op (Ok x)
      → ((s : Standing) → Works at mid s → At s → Q s x → After s (Found at new R op result)) → Checked at old new R op result
  unfolding Checked
  checked_then Q R x result checked more s works is =
      after_then s (Found at new R op result) (after_so s (Found at mid Q op (Ok x)) (λ t. After t (Found at new R op result)) (λ t f. more t f.1 f.2 f.0) (checked s works is))

  pub checked_err : {S T : Type 0} (Q : Standing → S → Type 0) (R : Standing → T → Type 0) (r : Refusal) → Checked at old mid Q op (Err r) → Checked at old mid R op (Err r)
  unfolding Checked
  checked_err Q R r checked = checked

  -- the lane is at work still after a check
  pub checked_at : {S : Type 0} (Q : Standing → S → Type 0) (result : Result S Refusal) → IsAt at old → Checked at old mid Q op result → IsAt at mid
  unfolding Checked
  checked_at Q (Ok x) is checked = let t = checked is.standing is.works is.stands in record { standing = moved is.standing t.view; works = t.holds.1; stands = t.holds.2 }
  checked_at Q (Err r) is checked = let t = checked is.standing is.works is.stands in record { standing = moved is.standing t.view; works = t.holds.1; stands = t.holds.2 }

  -- what passed a check may be made
  pub checked_so : {S : Type 0} (Q : Standing → S → Type 0) (x : S) → IsAt at old → Checked at old mid Q op (Ok x) → IsAtSo at mid (λ s. Q s x)
  unfolding Checked
  checked_so Q x is checked = let t = checked is.standing is.works is.stands in record { standing = moved is.standing t.view; works = t.holds.1; stands = t.holds.2; holds = t.holds.0 }

  -- what was tried is refused
  gives_for : is_inside op ≡ true → is_action op ≡ false → (s : Standing) (r : Refusal) → IsRefused s op r → GivesUp s op (Some (Refused r))
  gives_for inside plain s r refused = inl (record { inside = inside; plain = plain; seen = unseen; root = None; looks = refused.looks; refusal = r; first = refused.first; replied = refl; busy = λ e. absurd (both_ways false refl e); missing = λ off e. absurd (both_ways false refl e) })

  refused_here : {T : Type 0} (plan : View → Plan) (Is : View → T → Type 0) (s : Standing) (r : Refusal) → is_inside op ≡ true → is_action op ≡ false → r ≢ refusal.Stopped
      → Came {T = T} at mid op plan Is (Err r) s → IsAtBut at mid (λ t. GivesUp t op (Some (Refused r)))
  refused_here plan Is s refusal.Stopped inside plain goes came = absurd (goes refl)
  refused_here plan Is s r inside plain goes came = record { standing = s; locks = s.locks; works = came.1; stands = came.2; holds = gives_for inside plain s r came.0 }

  pub refused_so : {T : Type 0} (plan : View → Plan) (Is : View → T → Type 0) (r : Refusal) → is_inside op ≡ true → is_action op ≡ false → IsAt at old → Tried at old mid op plan Is (Err r) → r ≢ refusal.Stopped
      → IsAtBut at mid (λ t. GivesUp t op (Some (Refused r)))
  unfolding Tried
  refused_so plan Is r inside plain is tried goes = let t = tried is.standing is.works is.stands in refused_here plan Is (moved is.standing t.view) r inside plain goes t.holds

  -- done, or stopped, or given up
  pub did_ok : {T : Type 0} (plan : View → Plan) (Is : View → T → Type 0) (x : T) → work_refusal old ≡ None → Tried at old new op plan Is (Ok x) → Did at old new op plan Is (Ok x)
  unfolding Tried Did
  did_ok plan Is x none tried = subst (λ w. DidSo w at old new op plan Is (Ok x)) (sym none)
      (λ s works is. after_so s (Came at new op plan Is (Ok x)) (Ends at new op plan Is (Ok x)) (λ t c. c) (tried s works is))

  cut_here : (s : Standing) (plan : Plan) → ((c : Cut at mid s plan false) × (is_adding op ≡ false → WasUnwritten c)) → new ≡ record mid { stopped = true }
      → (c : Cut at new s plan true) × (is_adding op ≡ false → WasUnwritten c)
  cut_here s plan cut same =
      let c : Cut at mid s plan false = cut.0 in
      subst (λ (lane : Lane M). (d : Cut at lane s plan true) × (is_adding op ≡ false → WasUnwritten d)) (sym same)
      (record { working = c.working; ready = c.ready; stops = c.stops; fields = ap (λ (f : Fields). record f { stopped = true }) c.fields; facts = c.facts }, cut.1)

  ends_here : {T : Type 0} (plan : View → Plan) (Is : View → T → Type 0) (s : Standing) (why answer : Refusal) → IsRefused s op why → GivesUpFor at new op why answer s → Ends {T = T} at new op plan Is (Err answer) s
  ends_here plan Is s why refusal.Stopped refused gives = inr (why, gives.0, refused, gives.1)
  ends_here {T} plan Is s why answer refused gives = subst (λ (r : Refusal). GaveUp at new s op r) (sym gives.0) (record { refused = refused; number = gives.1.number; ready = gives.1.ready; sees = gives.1.sees; over = gives.1.over })

  came_to : {T : Type 0} (plan : View → Plan) (Is : View → T → Type 0) (why answer : Refusal) → is_inside op ≡ true → is_action op ≡ false → Refuses at mid new op why answer
      → (s : Standing) → Came {T = T} at mid op plan Is (Err why) s → Ends {T = T} at new op plan Is (Err answer) s
  unfolding Refuses
  came_to {T} plan Is refusal.Stopped answer inside plain refuses s came = subst (λ (r : Refusal). Ends {T = T} at new op plan Is (Err r) s) (sym refuses.0) (inl (came.0, cut_here s (plan s.view) came.1 refuses.1))
  came_to plan Is why answer inside plain refuses s came = ends_here plan Is s why answer came.0 (refuses s s.locks came.1 came.2 (gives_for inside plain s why came.0))

  pub did_err : {T : Type 0} (plan : View → Plan) (Is : View → T → Type 0) (why answer : Refusal) → is_inside op ≡ true → is_action op ≡ false → work_refusal old ≡ None
      → Tried at old mid op plan Is (Err why) → Refuses at mid new op why answer → Did at old new op plan Is (Err answer)
  unfolding Tried Did
  did_err {T} plan Is why answer inside plain none tried refuses = subst (λ w. DidSo {T = T} w at old new op plan Is (Err answer)) (sym none)
      (λ s works is. after_so s (Came {T = T} at mid op plan Is (Err why)) (Ends {T = T} at new op plan Is (Err answer)) (came_to plan Is why answer inside plain refuses) (tried s works is))

  -- refused for its stage
  pub did_nothing : {T : Type 0} (plan : View → Plan) (Is : View → T → Type 0) (r : Refusal) → work_refusal old ≡ Some r → Did at old old op plan Is (Err r)
  unfolding Did
  did_nothing {T} plan Is r some = subst (λ w. DidSo {T = T} w at old old op plan Is (Err r)) (sym some) (refl, refl)

  -- the lane is at work after what was done
  pub did_leaves : {T : Type 0} (plan : View → Plan) (Is : View → T → Type 0) (x : T) → (work_refusal old ≡ None → IsAt at old) → Did at old new op plan Is (Ok x) → IsAt at new
  unfolding Did
  did_leaves {T} plan Is x is did = by (work_refusal old) refl did where
    by : (w : Option Refusal) → work_refusal old ≡ w → DidSo {T = T} w at old new op plan Is (Ok x) → IsAt at new
    by (Some r) some d = absurd (let e = d.0 in cc)
    by None none d =
        let here = is none in
        let t = d here.standing here.works here.stands in
        record { standing = next (moved here.standing t.view) (plan t.view); works = t.holds.0.works; stands = t.holds.0.stands }
