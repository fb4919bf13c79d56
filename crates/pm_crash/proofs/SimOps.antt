-- Operations that leave the copy, refused ones, and abort.
use Rattle.std.proofs.Common.{◌≡◌, ℕ, Bool, true, false, cond, List, [], Option, Some, None, IsSome, All, MatchOption, refl, sym, ◌∙◌, ap, subst}
use Rattle.std.proofs.lemmas.Bool.{false≢true}
use Rattle.pm_header.specs.declared.header.Header.{Header}
use Rattle.pm_objects.specs.declared.calls.Operation.{Operation}
use Rattle.pm_objects.specs.declared.calls.Operation.TheVariants.{Begin, Lock, AddRange, Read, WriteReserved, DeferFree, SetValue, Cancel, Abort, Publish}
use Rattle.pm_objects.specs.declared.calls.Want.{Want}
use Rattle.pm_objects.specs.declared.history.TxErr.TheVariants as error
use Rattle.pm_objects.specs.declared.history.Value.{Value}
use Rattle.pm_objects.specs.declared.history.Value.TheVariants.{Bytes}
use Rattle.pm_objects.specs.declared.pool.PoolView.{PoolView}
use Rattle.pm_objects.specs.declared.refusal.Refusal.{Refusal}
use Rattle.pm_model.specs.Inside.{IsDone, IsRefused, IsReply, MayBePublished, Ran, Replies, after_reply, is_action, is_inside, is_kept_by, wants_of}
use Rattle.pm_model.specs.Items.{Items, plain_pool}
use Rattle.pm_model.specs.Refusals.{is_first_lock, refusal_of}
use Rattle.pm_model.specs.Transaction.{Transaction, aborted}
use Rattle.pm_model.proofs.Lists.{all_of_each, each_of_all, each_weaker}
use Rattle.pm_view.specs.Entries.{Entry}
use Rattle.pm_view.specs.View.{Constants, View}
use Rattle.pm_world.specs.States.{State, over}
use Rattle.pm_crash.specs.Looked.{Enters, refusal_by}
use Rattle.pm_crash.specs.Sim.{Agrees, Came, LeadsOn, SameBits, StandIn, Tells, bits_now, copy_of, lists_of, tx_with}
use Rattle.pm_crash.specs.SimOps.{Extends, Finds, IsAborted, LeavesBits, IsRefusedBy, LookedAt, RepliesBy, SimAborts, SimExtends, SimRefuses, leaves_copy}
use Rattle.pm_crash.specs.Spelled.{Holds}
use Rattle.pm_crash.proofs.Looked.{item_so, read_is, refusal_is}
use Rattle.pm_crash.proofs.SceneSteps.{scenes_begin}
use Rattle.pm_crash.proofs.Simulation.{agrees_back, header_back, holds_back, nothing_yet, same_bits, sim_goes_on}

pub all_weaker : {A : Type 0} (P Q : A → Type 0) → ((x : A) → P x → Q x) → (xs : List A) → All P xs → All Q xs
all_weaker P Q f xs all = all_of_each Q xs (each_weaker P Q xs f (each_of_all P xs all))

-- ---- FACTS OF THE MODEL'S OPERATIONS

-- such an operation is one of a transaction, and leaves the copy
leaves_inside : (op : Operation) → leaves_copy op ≡ true → is_inside op ≡ true
leaves_inside (Begin wants) e = refl
leaves_inside (Lock want) e = refl
leaves_inside (AddRange id at len) e = refl
leaves_inside (Read id at len) e = refl
leaves_inside (WriteReserved id at bytes) e = refl
leaves_inside (DeferFree id) e = refl
leaves_inside (SetValue id at value) e = refl
leaves_inside Cancel e = refl
leaves_inside op e = absurd (false≢true e)

leaves_items : (v : View) (entries : List Entry) (op : Operation) (reply : Option Value) (tx : Transaction) → leaves_copy op ≡ true → RepliesBy v entries op reply → (after_reply op reply tx).items ≡ tx.items
leaves_items v entries (Begin wants) reply tx e y = ap (λ r. (after_reply (Begin wants) r tx).items) y
leaves_items v entries (Lock want) reply tx e y = ap (λ r. (after_reply (Lock want) r tx).items) y
leaves_items v entries (AddRange id at len) reply tx e y = ap (λ r. (after_reply (AddRange id at len) r tx).items) y
leaves_items v entries (Read id at len) reply tx e y = ap (λ r. (after_reply (Read id at len) r tx).items) y.2
leaves_items v entries (WriteReserved id at bytes) reply tx e y = ap (λ r. (after_reply (WriteReserved id at bytes) r tx).items) y
leaves_items v entries (DeferFree id) reply tx e y = ap (λ r. (after_reply (DeferFree id) r tx).items) y
leaves_items v entries (SetValue id at value) reply tx e y = ap (λ r. (after_reply (SetValue id at value) r tx).items) y
leaves_items v entries Cancel reply tx e y = ap (λ r. (after_reply Cancel r tx).items) y
leaves_items v entries op reply tx e y = absurd (false≢true e)

nothing_published : (op : Operation) (tx : Transaction) → leaves_copy op ≡ true → MayBePublished tx op
nothing_published Publish tx e = absurd (false≢true e)
nothing_published op tx e = tt

-- what is not refused is done
pub is_done : (tx : Transaction) (ran : Ran) (kept : Bool) → is_inside ran.operation ≡ true → refusal_of ran.seen tx ran.operation ≡ None → IsDone tx ran.operation kept ran.reply → Replies tx ran kept
is_done tx ran kept inside none done = record { inside = inside; reply = subst (λ o. MatchOption o (IsDone tx ran.operation kept ran.reply) (λ r. IsRefused r ran.reply)) (sym none) done }

pub is_refused : (tx : Transaction) (ran : Ran) (kept : Bool) (r : Refusal) → is_inside ran.operation ≡ true → refusal_of ran.seen tx ran.operation ≡ Some r → IsRefused r ran.reply → Replies tx ran kept
is_refused tx ran kept r inside is y = record { inside = inside; reply = subst (λ o. MatchOption o (IsDone tx ran.operation kept ran.reply) (λ q. IsRefused q ran.reply)) (sym is) y }

module _ (v next : View) (entries entries' : List Entry) (root : Option ℕ) (ran : Ran) (tells : Tells v next ran)
    (looks : LookedAt v entries root ran.operation)
    (kept : Bool) (classes : ℕ → ℕ) (s : State) (header : Header) (pool : PoolView) (x : Agrees classes next kept s) (x_before : Agrees classes v (is_kept_by ran.operation kept) s)
    (holds : Holds next.fixed.shape classes s header pool) (id : header.id ≡ next.fixed.pool) (c : Came v entries (is_kept_by ran.operation kept) classes s (plain_pool pool)) where
  abbrev was : Bool
  was = is_kept_by ran.operation kept

  abbrev copy : Items
  copy = copy_of v (plain_pool pool)

  abbrev tx : Transaction
  tx = tx_with v (plain_pool pool) copy

  pub holds_before : Holds v.fixed.shape classes s header pool
  holds_before = holds_back v next tells.keeps classes s header pool holds

  pub first_is : refusal_of ran.seen tx ran.operation ≡ refusal_by ran.seen v root ran.operation
  first_is = refusal_is v entries ran.seen root ran.operation looks.enters looks.sizes was classes s header pool copy x_before holds_before
      (header_back v next tells.keeps header id) c.stands (looks.knows_root was classes s header pool x_before holds_before)

  -- the copy stands in bits that stay
  pub stay : SameBits v entries next entries' → StandIn next.fixed.shape classes (bits_now next entries' s) copy
  stay same = subst (λ (f : Constants). StandIn f.shape classes (bits_now next entries' s) copy) (sym tells.keeps.fixed)
      (subst (λ t. StandIn v.fixed.shape classes t copy) (sym (same_bits v next entries entries' same kept classes s x)) c.stands)

  -- nothing of the call is left in the bits
  pub nothing_left : next.log.records ≡ [] → entries' ≡ [] → StandIn next.fixed.shape classes (bits_now next entries' s) (plain_pool pool).items
  nothing_left records none = subst (λ t. StandIn next.fixed.shape classes t (plain_pool pool).items) (sym same) (scenes_begin next.fixed.shape classes s header pool holds)
    where
      same : bits_now next entries' s ≡ s
      same = (λ i. bits_now next (none i) s) ∙ (λ i p b. over (nothing_yet next records p b i) (s p b))

  -- an object that the lane finds then is one of the copy
  pub found_there : SameBits v entries next entries' → Enters next entries' → (off : ℕ) → Finds next entries' off → IsSome (copy off)
  found_there same en off f = ap Rattle.std.specs.Prelude.is_some (item_so next entries' kept classes s header pool holds x en copy (stay same) f.block off f.object f.at)

  -- what is replied is the model's
  pub value_is : (op : Operation) → leaves_copy op ≡ true → RepliesBy v entries op ran.reply → IsReply tx op kept ran.reply
  value_is (Begin wants) e y = y
  value_is (Lock want) e y = y
  value_is (AddRange id at len) e y = y
  value_is (Read o at len) e y = y.2 ∙ ap (λ bs. Some (Bytes bs)) (sym (read_is v entries o.off at len y.0 looks.enters y.1 was classes s header pool copy x_before holds_before c.stands))
  value_is (WriteReserved id at bytes) e y = y
  value_is (DeferFree id) e y = y
  value_is (SetValue id at value) e y = y
  value_is Cancel e y = y
  value_is op e y = absurd (false≢true e)

  pub extended : Extends v entries next entries' root ran → LeadsOn v entries next entries' ran kept classes s (plain_pool pool)
  extended by = record {
    replies = is_done tx ran kept (leaves_inside ran.operation by.leaves) (first_is ∙ by.unrefused) (record {
      there = all_weaker (λ (want : Want). is_first_lock (lists_of v) want ≡ true → Finds next entries' want.id.off)
          (λ (want : Want). is_first_lock tx want ≡ true → IsSome (copy want.id.off)) (λ want f t. found_there by.same by.enters want.id.off (f t)) (wants_of ran.operation) by.there;
      publishes = nothing_published ran.operation tx by.leaves;
      value = value_is ran.operation by.leaves by.replies;
    });
    stands = subst (StandIn next.fixed.shape classes (bits_now next entries' s)) (sym (leaves_items v entries ran.operation ran.reply tx by.leaves by.replies)) (stay by.same);
  }

  -- ---- REFUSED OPERATIONS

  left_by : (b : Bool) (r : Refusal) → LeavesBits v entries next entries' b → StandIn next.fixed.shape classes (bits_now next entries' s) (cond b tx (aborted (error.Refused r) tx)).items
  left_by true r left = stay left
  left_by false r left = nothing_left left.0 left.1

  pub refused_by : IsRefusedBy v entries next entries' root ran → LeadsOn v entries next entries' ran kept classes s (plain_pool pool)
  refused_by by = record {
    replies = is_refused tx ran kept by.refusal by.inside (first_is ∙ by.first) (record { traced = by.traced; replied = by.replied });
    stands = subst (λ reply. StandIn next.fixed.shape classes (bits_now next entries' s) (after_reply ran.operation reply tx).items) (sym by.replied) (left_by (is_action ran.operation) by.refusal by.left);
  }

  -- ---- ABORT

  abort_done : (number : ℕ) → ran.reply ≡ None → IsDone tx (Abort number) kept ran.reply
  abort_done number e = record { there = Rattle.std.proofs.lemmas.List.Elements.All-nil _; publishes = tt; value = e }

  abort_items : (number : ℕ) → ran.reply ≡ None → (after_reply (Abort number) ran.reply tx).items ≡ (plain_pool pool).items
  abort_items number e = ap (λ r. (after_reply (Abort number) r tx).items) e

  pub aborted_so : IsAborted v entries next root ran → entries' ≡ [] → LeadsOn v entries next entries' ran kept classes s (plain_pool pool)
  aborted_so by none = record {
    replies = is_done tx ran kept (ap is_inside by.aborts) (first_is ∙ by.unrefused) (subst (λ op. IsDone tx op kept ran.reply) (sym by.aborts) (abort_done by.number by.replied));
    stands = subst (StandIn next.fixed.shape classes (bits_now next entries' s)) (sym (ap (λ op. (after_reply op ran.reply tx).items) by.aborts ∙ abort_items by.number by.replied)) (nothing_left by.records none);
  }

pub sim_extends : SimExtends
sim_extends v next entries entries' root ran sim tells may grows by = sim_goes_on v next entries entries' ran sim tells may grows
    (λ kept classes s header pool x holds id c. extended v next entries entries' root ran tells by.looks kept classes s header pool x (agrees_back v next (is_kept_by ran.operation kept) kept tells.keeps (grows kept) classes s x) holds id c by)

pub sim_refuses : SimRefuses
sim_refuses v next entries entries' root ran sim tells may grows by = sim_goes_on v next entries entries' ran sim tells may grows
    (λ kept classes s header pool x holds id c. refused_by v next entries entries' root ran tells by.looks kept classes s header pool x (agrees_back v next (is_kept_by ran.operation kept) kept tells.keeps (grows kept) classes s x) holds id c by)

pub sim_aborts : SimAborts
sim_aborts v next entries root ran sim tells may grows by = sim_goes_on v next entries [] ran sim tells may grows
    (λ kept classes s header pool x holds id c. aborted_so v next entries [] root ran tells by.looks kept classes s header pool x (agrees_back v next (is_kept_by ran.operation kept) kept tells.keeps (grows kept) classes s x) holds id c by refl)
