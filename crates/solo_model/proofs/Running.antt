-- What each answered operation keeps holds to the end of the transaction.
use Rattle.std.proofs.Common.{◌≡◌, List, [], ◌∷◌, Option, Some, None, MatchOption, Bool, true, false, cond, refl, sym, subst}
use Rattle.pm_objects.specs.declared.history.TxErr.TheVariants as error
use Rattle.pm_objects.specs.declared.refusal.Refusal.{Refusal}
use Rattle.solo_model.specs.Transaction.{Transaction, aborted}
use Rattle.solo_model.specs.Checks.{Seen, is_action, first_refusal}
use Rattle.solo_model.specs.Answers.{Told, after, IsDone, IsRefused, Answers}
use Rattle.solo_model.specs.Step.{RunsOn, RunsFrom}
use Rattle.solo_model.proofs.Alike.{after_refused}

cases_match : (J : Transaction → Type 0) (t : Told) (tx : Transaction) → (fr : Option Refusal) → MatchOption fr (IsDone tx t.operation t.reply) (λ r. IsRefused r t.reply)
    → J tx → (fr ≡ None → IsDone tx t.operation t.reply → J (after t tx)) → ((r : Refusal) → J (aborted (error.Refused r) tx)) → J (after t tx)
cases_match J t tx None done stays leaves aborts = leaves refl done
cases_match J t tx (Some r) is stays leaves aborts = subst J (sym (after_refused t.operation t.reply tx r is)) (by_action (is_action t.operation)) where
  by_action : (b : Bool) → J (cond b tx (aborted (error.Refused r) tx))
  by_action true = stays
  by_action false = aborts r

-- an answered operation is done, changes nothing, or aborts
pub after_cases : (J : Transaction → Type 0) (t : Told) (tx : Transaction) → Answers tx t.operation t.reply → J tx
    → ((seen : Seen) → first_refusal seen tx t.operation ≡ None → IsDone tx t.operation t.reply → J (after t tx))
    → ((r : Refusal) → J (aborted (error.Refused r) tx)) → J (after t tx)
after_cases J t tx a stays leaves aborts = cases_match J t tx (first_refusal a.seen tx t.operation) a.answer stays (leaves a.seen) aborts

-- a fact of what is still to run
pub runs_on_keep : (I : List Told → Transaction → Type 0) → ((t : Told) (told : List Told) (tx : Transaction) → Answers tx t.operation t.reply → I (t ∷ told) tx → I told (after t tx))
    → (told : List Told) (tx last : Transaction) → RunsOn tx told last → I told tx → I [] last
unfolding RunsOn
runs_on_keep I keeps [] tx last runs holds = subst (I []) (sym runs.1) holds
runs_on_keep I keeps (t ∷ told) tx last runs holds = runs_on_keep I keeps told (after t tx) last runs.2 (keeps t told tx runs.1 holds)

pub runs_keep : (I : List Told → Transaction → Type 0) → ((t : Told) (told : List Told) (tx : Transaction) → Answers tx t.operation t.reply → I (t ∷ told) tx → I told (after t tx))
    → (told : List Told) (tx last : Transaction) → RunsFrom tx told last → I told tx → I [] last
unfolding RunsFrom
runs_keep I keeps [] tx last runs holds = absurd runs
runs_keep I keeps (t ∷ told) tx last runs holds = runs_on_keep I keeps told (after t tx) last runs.1 (keeps t told tx runs.0 holds)

-- the same operations with the same replies have one end
same_end_on : (told : List Told) (tx last other : Transaction) → RunsOn tx told last → RunsOn tx told other → last ≡ other
unfolding RunsOn
same_end_on [] tx last other one two = (let e : last ≡ tx = one.1 in let f : other ≡ tx = two.1 in cc)
same_end_on (t ∷ told) tx last other one two = same_end_on told (after t tx) last other one.2 two.2

pub one_end : (told : List Told) (tx last other : Transaction) → RunsFrom tx told last → RunsFrom tx told other → last ≡ other
unfolding RunsFrom
one_end [] tx last other one two = absurd one
one_end (t ∷ told) tx last other one two = same_end_on told (after t tx) last other one.1 two.1
