-- The laws of calls that are apart, for the calls of a pool.
use Rattle.std.proofs.Common.{◌≡◌, inl, inr, List, [], ◌∷◌, Option, MatchOption, Bool, true, not, sym, ◌∙◌, ap, subst}
use Rattle.std.specs.List.{filter}
use Rattle.std.proofs.lemmas.Bool.{false≢true}
use Rattle.std.proofs.lemmas.List.Elements.{All-head, All-tail}
use Rattle.pm_objects.specs.declared.calls.Operation.{Operation}
use Rattle.pm_objects.specs.declared.calls.Operation.TheVariants.{Reserve, WriteReserved, DeferFree, SetValue, Publish, Cancel}
use Rattle.pm_objects.specs.declared.history.Value.{Value}
use Rattle.pm_objects.specs.declared.pool.PoolView.{PoolView}
use Rattle.solo_model.specs.Actions.{Pending}
use Rattle.solo_model.specs.Answers.{IsDone, IsRefused, Told}
use Rattle.solo_model.specs.Checks.{Seen, first_refusal}
use Rattle.solo_model.specs.Outside.{Outside, after_outside, stands_outside}
use Rattle.solo_model.specs.Step.{State, Act, OutsideStep, RunsFrom, Step, TransactionStep, with_pending}
use Rattle.solo_model.specs.Transaction.{Transaction, resting}
use Rattle.solo_model.specs.Framed.{Follows, IsFramed, IsUnwritten, MayBeLeftOut}
use Rattle.solo_model.specs.Names.{AllKeepBlocks, Apart, ApartFromAll, IsMap, Name, Replays, content, keeps_blocks, touches, writes}
use Rattle.solo_model.proofs.Changing as changing
use Rattle.solo_model.proofs.Frames.{framed, touched, keeps_map, same_state}
use Rattle.solo_model.proofs.Running.{one_end}

-- the call keeps every block, and turns one state into the other
abbrev KeepingStep : State → Act → State → Type 0
KeepingStep s act t = (keeps_blocks act ≡ true) × Step s act t

keeping_framed : (act : Act) → IsFramed content KeepingStep writes touches act
keeping_framed act = record {
  keeps = λ s t step. (framed act step.0).keeps s t step.1;
  local = λ s t other step same. let next = (framed act step.0).local s t other step.1 same in (next.0, (step.0, next.1), next.2);
}

keeping_map : (s t : State) (act : Act) → KeepingStep s act t → IsMap s → IsMap t
keeping_map s t act step is = keeps_map s t act step.0 step.1 is

-- calls that keep every block replay so, and back
all_keeping : (calls : List Act) (s t : State) → AllKeepBlocks calls → Replays s calls t → Follows KeepingStep s calls t
all_keeping [] s t keep replays = replays
all_keeping (a ∷ calls) s t keep replays = (
  replays.0,
  (All-head (λ (act : Act). keeps_blocks act ≡ true) a calls keep, replays.1),
  all_keeping calls replays.0 t (All-tail (λ (act : Act). keeps_blocks act ≡ true) a calls keep) replays.2,
)

replays_so : (calls : List Act) (s t : State) → Follows KeepingStep s calls t → Replays s calls t
replays_so [] s t follows = follows
replays_so (a ∷ calls) s t follows = (follows.0, follows.1.1, replays_so calls follows.0 t follows.2)

pub change_places : (a b : Act) (s t u : State) → keeps_blocks a ≡ true → keeps_blocks b ≡ true → IsMap s → Apart a b → Step s a t → Step t b u → (m : State) × Step s b m × Step m a u
change_places a b s t u keep_a keep_b is apart one two =
    let swap = changing.swapped content KeepingStep writes touches IsMap keeping_framed touched keeping_map same_state a b s t u is apart (keep_a, one) (keep_b, two) in
    (swap.0, swap.1.1, swap.2.1)

pub come_last : (a : Act) (calls : List Act) (s t u : State) → keeps_blocks a ≡ true → AllKeepBlocks calls → IsMap s → ApartFromAll a calls → Step s a t → Replays t calls u
    → (m : State) × Replays s calls m × Step m a u
come_last a calls s t u keep all is apart one rest =
    let last = changing.comes_last content KeepingStep writes touches IsMap keeping_framed touched keeping_map same_state a calls s t u is apart (keep, one) (all_keeping calls t u all rest) in
    (last.0, replays_so calls s last.0 last.1, last.2.1)

pub stand_earlier : (a : Act) (calls : List Act) (s m u : State) → keeps_blocks a ≡ true → AllKeepBlocks calls → IsMap s → ApartFromAll a calls → Replays s calls m → Step m a u
    → (t : State) × Step s a t × Replays t calls u
stand_earlier a calls s m u keep all is apart before one =
    let first = changing.comes_first content KeepingStep writes touches IsMap keeping_framed touched keeping_map same_state a calls s m u is apart (all_keeping calls s m all before) (keep, one) in
    (first.0, first.1.1, replays_so calls first.0 u first.2)

pub leave_out : (left_out : Act → Bool) (calls : List Act) (s u : State) → AllKeepBlocks calls → IsMap s → MayBeLeftOut writes touches left_out calls → Replays s calls u
    → (m : State) × Replays s (filter (λ a. not (left_out a)) calls) m × ((n : Name) → IsUnwritten writes left_out calls n → content m n ≡ content u n)
leave_out left_out calls s u all is may replays =
    let rest = changing.leaves_out content KeepingStep writes touches IsMap keeping_framed touched keeping_map same_state left_out calls s u is may (all_keeping calls s u all replays) in
    (rest.0, replays_so (filter (λ a. not (left_out a)) calls) s rest.0 rest.1, rest.2)

-- what stands outside begins no transaction
begins_none : (seen : Seen) (pool : PoolView) (actions : Pending) (op : Operation) (reply : Option Value) → stands_outside op ≡ true
    → MatchOption (first_refusal seen (resting pool actions) op) (IsDone (resting pool actions) op reply) (λ r. IsRefused r reply) → ⊥
unfolding first_refusal
begins_none seen pool actions (Reserve size kind) reply stands answer = false≢true (sym answer.traced)
begins_none seen pool actions (WriteReserved id off bytes) reply stands answer = false≢true (sym answer.traced)
begins_none seen pool actions (DeferFree id) reply stands answer = false≢true (sym answer.traced)
begins_none seen pool actions (SetValue id off value) reply stands answer = false≢true (sym answer.traced)
begins_none seen pool actions Publish reply stands answer = false≢true (sym answer.traced)
begins_none seen pool actions Cancel reply stands answer = false≢true (sym answer.traced)
begins_none seen pool actions op reply stands answer = absurd (false≢true stands)

one_way : (act : Act) (s t u : State) → TransactionStep s act t → OutsideStep s act u → ⊥
unfolding RunsFrom
one_way act s t u transaction outside =
    let runs : RunsFrom (resting s.pool act.actions) (record { operation = outside.operation; reply = outside.reply } ∷ []) transaction.last =
    subst (λ told. RunsFrom (resting s.pool act.actions) told transaction.last) outside.alone transaction.runs in
    begins_none runs.0.seen s.pool act.actions outside.operation outside.reply outside.answers.known runs.0.answer

same_told : (one other : Told) → one ∷ [] ≡ other ∷ [] → (one.operation ≡ other.operation) × (one.reply ≡ other.reply)
same_told one other e = (let f : one ≡ other = cc in (ap (λ (t : Told). t.operation) f, ap (λ (t : Told). t.reply) f))

pub one_next : (act : Act) (s t u : State) → Step s act t → Step s act u → t ≡ u
one_next act s t u (inl first) (inl second) =
    let last : first.last ≡ second.last = one_end act.told (resting s.pool act.actions) first.last second.last first.runs second.runs in
    first.leaves.leaves ∙ (ap (λ (e : Transaction). let n : State = record { pool = e.pool; actions = with_pending s.actions act.lane e.actions } in n) last ∙ sym second.leaves.leaves)
one_next act s t u (inl first) (inr second) = absurd (one_way act s t u first second)
one_next act s t u (inr first) (inl second) = absurd (one_way act s u t second first)
one_next act s t u (inr first) (inr second) =
    let same = same_told (record { operation = first.operation; reply = first.reply }) (record { operation = second.operation; reply = second.reply }) (sym first.alone ∙ second.alone) in
    let from : Outside = record { pool = s.pool; actions = act.actions } in
    let left : after_outside first.operation first.reply from ≡ after_outside second.operation second.reply from = (λ i. after_outside (same.0 i) (same.1 i) from) in
    first.leaves.leaves ∙ (ap (λ (l : Outside). let n : State = record { pool = l.pool; actions = with_pending s.actions act.lane l.actions } in n) left ∙ sym second.leaves.leaves)
