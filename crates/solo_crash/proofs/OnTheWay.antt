-- The views on the way of a lane that works alone: it worked alone up to each of them.
use Rattle.std.proofs.Common.{◌≡◌, ℕ, ◌+◌, ◌≤◌, Option, List, [], ◌∷◌, ◌++◌, ◌∙◌, ap, subst, arith}
use Rattle.std.specs.Option.{ForSome}
use Rattle.pm_header.specs.declared.header.Header.{Header}
use Rattle.pm_objects.specs.declared.pool.PoolView.{PoolView}
use Rattle.solo_view.specs.Founds.{IsAlone}
use Rattle.solo_view.specs.Steps.{Step}
use Rattle.solo_view.specs.View.{Numbered, View}
use Rattle.solo_view.proofs.SameLane.{same_lane-after_all}
use Rattle.solo_memory.specs.Solo.{AreNumbered}
use Rattle.solo_world.specs.Opening.{Opening}
use Rattle.solo_crash.specs.Alone.{WorksAlone}
use Rattle.solo_crash.specs.Leading.{Leads}
use Rattle.solo_crash.proofs.AloneCourse.{Grows, grows_along}
use Rattle.solo_crash.proofs.Leading.{leads_end, leads_on}

-- the first of numbers that count on count on
pub numbered_front : (n : ℕ) (xs ys : List Numbered) → AreNumbered n (xs ++ ys) → AreNumbered n xs
unfolding AreNumbered
numbered_front n [] ys numbered = tt
numbered_front n (e ∷ xs) ys numbered = (numbered.0, numbered_front (n + 1) xs ys numbered.1)

-- fewer calls are within the stop number too
fewer_within : (stop other : Option ℕ) (calls last : ℕ) → other ≡ stop → calls ≤ last → ForSome other (λ s. last ≤ s) → ForSome stop (λ s. calls ≤ s)
fewer_within stop other calls last same less within s is = let most = within s (same ∙ is) in omega arith

-- it is of no table at each view on the way
pub alone_on_the_way : (v b : View) (before : List Step) → IsAlone v → Leads v before b → IsAlone b
alone_on_the_way v b before alone leads = ap (λ (u : View). u.table) (leads_end v b before leads) ∙ ((same_lane-after_all v before).table ∙ alone)

pub works_up_to : (o : Opening) (header : Header) (pool : PoolView) (v b w : View) (before steps : List Step) → WorksAlone o header pool v (before ++ steps) w → Leads v before b → WorksAlone o header pool v before b
works_up_to o header pool v b w before steps works leads =
    let grows : Grows b w = grows_along b steps w (leads_on v b w before steps leads works.leads) in
    record {
      begins = works.begins;
      leads = leads;
      numbered = numbered_front 1 b.entries grows.rest (subst (AreNumbered 1) grows.entries works.numbered);
      within = fewer_within b.stop w.stop b.calls w.calls grows.stop grows.calls works.within;
    }
