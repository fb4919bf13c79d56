-- A transaction so far and one more operation. What its operations replied stands, also where the
-- new one is a cancel.
use Rattle.std.proofs.Common.{◌≡◌, List, [], ◌∷◌, ◌++◌, Bool, true, false, Option, Some, None, MatchOption, refl, subst}
use Rattle.std.proofs.lemmas.Bool.{false≢true}
use Rattle.pm_objects.specs.declared.calls.Operation.{Operation}
use Rattle.pm_objects.specs.declared.calls.Operation.TheVariants.{Reserve, Publish, Cancel}
use Rattle.pm_objects.specs.declared.history.Value.{Value}
use Rattle.pm_objects.specs.declared.refusal.Refusal.{Refusal}
use Rattle.pm_model.specs.Blocks.{Block}
use Rattle.pm_model.specs.Transaction.{Transaction, is_working}
use Rattle.pm_model.specs.Refusals.{refusal_of}
use Rattle.pm_model.specs.Inside.{IsDone, IsPlaced, IsRefused, IsReply, Ran, Replies, after, is_kept, is_kept_by}
use Rattle.pm_model.specs.CallStep.{Runs, RunsOn}

-- what is kept is so without the operations that are still to come
kept_by : (op : Operation) (later now : Bool) → (later ≡ true → now ≡ true)
    → is_kept_by op later ≡ true → is_kept_by op now ≡ true
kept_by Cancel later now less kept = kept
kept_by Publish later now less kept = kept
kept_by op later now less kept = less kept

kept_before : (rest more : List Ran) → is_kept (rest ++ more) ≡ true → is_kept rest ≡ true
unfolding is_kept
kept_before [] more kept = refl
kept_before (ran ∷ rest) more kept =
    kept_by ran.operation (is_kept (rest ++ more)) (is_kept rest) (kept_before rest more) kept

placed_less : (tx : Transaction) (b : Block) (now later : Bool) → (later ≡ true → now ≡ true)
    → IsPlaced tx now b → IsPlaced tx later b
placed_less tx b true true less placed = placed
placed_less tx b true false less placed = placed.0
placed_less tx b false false less placed = placed
placed_less tx b false true less placed = absurd (false≢true (less refl))

reply_less : (tx : Transaction) (op : Operation) (reply : Option Value) (now later : Bool)
    → (later ≡ true → now ≡ true) → IsReply tx op now reply → IsReply tx op later reply
reply_less tx (Reserve size kind) reply now later less value = (
  value.0,
  placed_less tx (record { off = value.0; size = size }) now later less value.1,
  value.2,
)
reply_less tx op reply now later less value = value

replies_less : (tx : Transaction) (ran : Ran) (now later : Bool) → (later ≡ true → now ≡ true)
    → Replies tx ran now → Replies tx ran later
replies_less tx ran now later less replies = record {
  inside = replies.inside;
  reply = by (refusal_of ran.seen tx ran.operation) replies.reply;
} where
  by : (o : Option Refusal)
      → MatchOption o (IsDone tx ran.operation now ran.reply) (λ r. IsRefused r ran.reply)
      → MatchOption o (IsDone tx ran.operation later ran.reply) (λ r. IsRefused r ran.reply)
  by None done = record {
    there = done.there;
    publishes = done.publishes;
    value = reply_less tx ran.operation ran.reply now later less done.value;
  }
  by (Some r) refused = refused

grow_on : (rest : List Ran) (ran : Ran) (tx mid : Transaction) → RunsOn tx rest mid
    → is_working mid.stage ≡ true → Replies mid ran true
    → RunsOn tx (rest ++ ran ∷ []) (after ran mid)
unfolding RunsOn is_kept
grow_on [] ran tx mid runs works replies =
    subst (λ (t : Transaction). (is_working t.stage ≡ true) × Replies t ran true
    × (after ran mid ≡ after ran t)) runs (works, replies, refl)
grow_on (first ∷ rest) ran tx mid runs works replies = (
  runs.0,
  replies_less tx first (is_kept rest) (is_kept (rest ++ ran ∷ []))
      (kept_before rest (ran ∷ [])) runs.1,
  grow_on rest ran (after first tx) mid runs.2 works replies,
)

pub grow : (operations : List Ran) (ran : Ran) (tx mid : Transaction) → Runs tx operations mid
    → is_working mid.stage ≡ true → Replies mid ran true
    → Runs tx (operations ++ ran ∷ []) (after ran mid)
unfolding Runs
grow [] ran tx mid runs works replies = absurd runs
grow (first ∷ rest) ran tx mid runs works replies = (
  replies_less tx first (is_kept rest) (is_kept (rest ++ ran ∷ []))
      (kept_before rest (ran ∷ [])) runs.0,
  grow_on rest ran (after first tx) mid runs.1 works replies,
)
