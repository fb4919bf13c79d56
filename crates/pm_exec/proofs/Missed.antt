-- A CALL THAT WAS REFUSED AS NoObject has its cause among the entries: what the lanes' run tells of it,
-- by what the entries show.
use Rattle.std.proofs.Common.{◌≡◌, ◌⊎◌, ⊎_elim, ℕ, zero, suc, ◌+◌, ◌<◌, ◌≤◌, ◌==◌, Bool, true, false, cond, Contains, List, [], ◌∷◌, length, map, get_or, take, Some, inl, inr, refl, sym, ap, ◌∙◌, subst, arith}
use Rattle.std.specs.List.{AllZip}
use Rattle.std.proofs.lemmas.Bool.{both_ways, eq-eqb, eqb-true}
use Rattle.pm_objects.specs.declared.calls.Operation.{Operation}
use Rattle.pm_objects.specs.declared.calls.Operation.TheVariants as operation
use Rattle.pm_objects.specs.declared.history.Entry.{Entry}
use Rattle.pm_objects.specs.declared.history.Value.TheVariants.{Refused}
use Rattle.pm_objects.specs.declared.ids.Oid.{Oid}
use Rattle.pm_objects.specs.declared.pool.PoolView.{PoolView}
use Rattle.pm_objects.specs.declared.refusal.Refusal.TheVariants.{NoObject}
use Rattle.pm_model.specs.CallStep.{CallRun}
use Rattle.pm_model.specs.History.{IsMissedBefore, without_lost}
use Rattle.pm_model.specs.Shown.{IsEntry}
use Rattle.pm_model.specs.Transaction.{is_gone}
use Rattle.pm_script.specs.declared.script.ScriptLine.{ScriptLine}
use Rattle.pm_script.specs.declared.script.ScriptOp.{ScriptOp}
use Rattle.pm_script.specs.declared.script.ScriptOp.TheVariants as op
use Rattle.pm_view.specs.View.{Told, entry_drawn}
use Rattle.pm_world.specs.Causes.{drawn_by}
use Rattle.pm_world.specs.Runs.{Moment}
use Rattle.pm_world.specs.World.{Past, numbered_by}
use Rattle.pm_crash.specs.Calls.{IsRunOf, state_of}
use Rattle.pm_crash.specs.Facts.{last_of}
use Rattle.pm_crash.specs.Missed.{ids_named, lists_before}
use Rattle.pm_crash.specs.Replayed.{kept_calls, kept_pending}
use Rattle.pm_calls.specs.Calls.{call_of, calls_of_lane, line_operation, operation_of, runs_on_lanes, RunsOnLanes}
use Rattle.pm_calls.specs.declared.names.Names.{Names}
use Rattle.pm_lanes.specs.Closed.{HasMissCause, LackedObject, keeps_call}
use Rattle.pm_shared.specs.declared.rule.Beginning.{Beginning}
use Rattle.pm_exec.specs.Missing.{HasMissed, IsNamed, ids_of}
use Rattle.pm_exec.specs.Reports.{entries_of_lane}
use Rattle.pm_exec.proofs.NoFrees.{AllPlain, FreesNone, Plain, are_plain, lists_none, named_so, not_gone}
use Rattle.pm_exec.proofs.Reported.{last_has}
use Rattle.pm_exec.proofs.Rising.{Has, all_has, filter_has, has_at, in_map, map_has, place_of}
use Rattle.std.proofs.Common.{All}

-- ---- WORDS

-- of what is asked to be set nothing is said
abbrev pub AnyId : Oid → Type 0
AnyId id = Unit {0}

-- a line's operation is one of the words that lanes run
line_plain : (names : Names) (said : ScriptOp) → runs_on_lanes said ≡ true → Plain AnyId (operation_of names said)
line_plain names (op.Begin wants) runs = tt
line_plain names (op.Lock want) runs = tt
line_plain names (op.Add id off len) runs = tt
line_plain names (op.Write id off bytes) runs = tt
line_plain names (op.Read id off len) runs = tt
line_plain names (op.Increment id off by) runs = tt
line_plain names (op.Set id off value) runs = tt
line_plain names op.Publish runs = tt
line_plain names op.Cancel runs = tt
line_plain names op.Commit runs = tt
line_plain names (op.Abort errnum) runs = tt
line_plain names said runs = absurd cc

in_take : {X : Type 0} (n : ℕ) (xs : List X) (x : X) → Has (take n xs) x → Has xs x
in_take zero xs x there = absurd there
in_take (suc n) [] x there = absurd there
in_take (suc n) (y ∷ xs) x (inl is) = inl is
in_take (suc n) (y ∷ xs) x (inr there) = inr (in_take n xs x there)

-- so are the operations of each entry of a lane whose entries are the first of its calls
pub entry_plain : (names : Names) (lane : ℕ) (script : List ScriptLine) (entries : List Entry) (e : Entry)
    → All (All RunsOnLanes) (calls_of_lane lane script)
    → map (λ (e : Entry). e.call) (entries_of_lane lane entries) ≡ take (length (entries_of_lane lane entries)) (map (call_of names lane) (calls_of_lane lane script))
    → Has entries e → e.call.lane ≡ lane → (o : Operation) → Has e.call.operations o → Plain AnyId o
entry_plain names lane script entries e words calls there of_lane o among =
    let mine : Has (entries_of_lane lane entries) e = filter_has (λ (x : Entry). x.call.lane == lane) entries e there (eq-eqb e.call.lane lane of_lane) in
    let called = in_take (length (entries_of_lane lane entries)) (map (call_of names lane) (calls_of_lane lane script)) e.call
    (subst (λ cs. Has cs e.call) calls (map_has (λ (e : Entry). e.call) (entries_of_lane lane entries) e mine)) in
    let c = in_map (call_of names lane) (calls_of_lane lane script) e.call called in
    let l = in_map (line_operation names) c.of o (subst (λ call. Has call.operations o) (sym c.is) among) in
    subst (Plain AnyId) l.is (line_plain names l.of.operation (all_has RunsOnLanes c.of l.of (all_has (All RunsOnLanes) (calls_of_lane lane script) c.of words c.there) l.there))

-- where it is asked to set a word, more may be known of the object
upgrade : (P : Oid → Type 0) (o : Operation) → Plain AnyId o → ((id : Oid) (off value : ℕ) → o ≡ operation.SetValue id off value → P id) → Plain P o
upgrade P (operation.SetValue id off value) plain here = here id off value refl
upgrade P (operation.Begin wants) plain here = tt
upgrade P (operation.Lock want) plain here = tt
upgrade P (operation.AddRange id off len) plain here = tt
upgrade P (operation.Write id off bytes) plain here = tt
upgrade P (operation.Read id off len) plain here = tt
upgrade P (operation.Increment id off by) plain here = tt
upgrade P operation.Publish plain here = tt
upgrade P operation.Cancel plain here = tt
upgrade P operation.Commit plain here = tt
upgrade P (operation.Abort errnum) plain here = tt
upgrade P o plain here = absurd plain

-- ---- THE ENTRIES OF A HISTORY, with what is known of them

pub record Shown (g : Past) (keep : ℕ → Bool) (entries : List Entry) : Type 0 where
  pub count : length entries ≡ g.length
  pub numbers : (i : ℕ) (d : Entry) → i < length entries → (get_or entries i d).number ≡ i + 1
  pub lane_is : (i : ℕ) (d : Entry) → i < length entries → (get_or entries i d).call.lane ≡ (g.drew i).fixed.lane
  pub has : (i : ℕ) (d : Entry) → i < length entries → (t : Told) → Has (g.drew i).call t → Contains (get_or entries i d).call.operations t.operation
  pub plain : (i : ℕ) (d : Entry) → i < length entries → (o : Operation) → Has (get_or entries i d).call.operations o → Plain AnyId o
  pub before : (i : ℕ) → i < g.length → (g.drew i).entries ≡ numbered_by (g.drew i).fixed.lane g.drew i
  pub up_to : (d : Entry) (n : ℕ) → n ≤ length entries → (runs : List CallRun) → AllZip IsRunOf (kept_calls keep g.drew n) runs → AllZip IsEntry (without_lost (take n entries)) runs

module _ (b : Beginning) (now : Moment) (pool : PoolView) (image : List ℕ) (pool_is : b.pool ≡ pool.id) (entries : List Entry)
    (shown : Shown now.past (keeps_call b now image) entries) (call : ℕ) (d : Entry) (low : call < length entries) where
  abbrev g : Past
  g = now.past

  abbrev e : Entry
  e = get_or entries call d

  abbrev P : Oid → Type 0
  P id = IsNamed entries call (get_or entries call d) id

  low_in : call < g.length
  low_in = subst (λ n. call < n) shown.count low

  to_has : {X : Type 0} (xs : List X) (x : X) → Contains xs x → Has xs x
  to_has xs x c = has_at xs c.0 x x c.1 c.2

  to_contains : {X : Type 0} (xs : List X) (x : X) → Has xs x → Contains xs x
  to_contains xs x there = let p = place_of xs x there in (p.at, p.low, p.is _)

  -- an operation that the lane recorded in its calls up to this one
  recorded : (i : ℕ) → i ≤ call → (g.drew i).fixed.lane ≡ (g.drew call).fixed.lane → (t : Told) → Has (g.drew i).call t → Plain P t.operation
  recorded i most same t there =
      let inside : i < length entries = omega (arith, most, low) in
      let among = shown.has i (get_or entries call d) inside t there in
      upgrade P t.operation (shown.plain i (get_or entries call d) inside t.operation (to_has (get_or entries i (get_or entries call d)).call.operations t.operation among))
      (λ id off value is. record {
        by = i;
        earlier = most;
        of_lane = shown.lane_is i (get_or entries call d) inside ∙ (same ∙ sym (shown.lane_is call d low));
        operation = t.operation;
        among = among;
        names = subst (λ o. Contains (ids_of o) id) (sym is) (to_contains (id ∷ []) id (inl refl));
      })

  earlier : (n : ℕ) → n ≤ call → AllPlain P (numbered_by (g.drew call).fixed.lane g.drew n)
  earlier zero most = tt
  earlier (suc n) most = by_lane ((g.drew n).fixed.lane == (g.drew call).fixed.lane) refl (earlier n (omega (arith, most)))
    where
      by_lane : (c : Bool) → ((g.drew n).fixed.lane == (g.drew call).fixed.lane) ≡ c → AllPlain P (numbered_by (g.drew call).fixed.lane g.drew n)
          → AllPlain P (cond c (entry_drawn n (g.drew n) ∷ numbered_by (g.drew call).fixed.lane g.drew n) (numbered_by (g.drew call).fixed.lane g.drew n))
      by_lane true is rest = (
        are_plain P (g.drew n).call (recorded n (omega (arith, most)) (eqb-true (g.drew n).fixed.lane (g.drew call).fixed.lane is)),
        rest,
      )
      by_lane false is rest = rest

  frees_none : FreesNone P (lists_before (g.drew call))
  frees_none = lists_none P (g.drew call) (are_plain P (g.drew call).call (recorded call (omega arith) refl))
      (subst (AllPlain P) (sym (shown.before call low_in)) (earlier call (omega arith)))

  missed_before : (off : ℕ) → LackedObject b now pool image call off → IsMissedBefore pool entries (get_or entries call d) off
  missed_before off lacked = record {
    number = lacked.number;
    earlier = let is = shown.numbers call d low in let below = lacked.below in omega (arith, is, below);
    since = λ k x inside same before.
        let is = shown.numbers k x inside in
        let last = shown.numbers call d low in
        let sooner : k < call = omega (arith, is, last, before) in
        let lanes : drawn_by g k ≡ drawn_by g call = sym (shown.lane_is k x inside) ∙ (same ∙ shown.lane_is call d low) in
        let least = lacked.least k sooner lanes in
        omega (arith, is, least);
    then_pool = lacked.leads.last;
    replays = record {
      runs = lacked.leads.replay.runs;
      are_entries = shown.up_to d lacked.number (let below = lacked.below in omega (arith, below, low)) lacked.leads.replay.runs lacked.leads.replay.are;
      end = state_of lacked.leads.last (kept_pending (keeps_call b now image) g.drew lacked.number);
      replays = lacked.leads.replay.replays;
      ends = refl;
    };
    none = lacked.leads.none;
  }

  module _ (o : Operation) (last : last_of (g.drew call).call ≡ Some (record { operation = o; reply = Some (Refused NoObject) })) where
    there : Has (g.drew call).call (record { operation = o; reply = Some (Refused NoObject) })
    there = last_has (g.drew call).call (record { operation = o; reply = Some (Refused NoObject) }) last

    is_named : (id : Oid) → Has (ids_named (lists_before (g.drew call)).pending o) id → P id
    is_named id names = ⊎_elim
        (λ (own : Has (ids_of o) id). record {
          by = call;
          earlier = omega arith;
          of_lane = ap (λ (x : Entry). x.call.lane) (same (get_or entries call d));
          operation = o;
          among = shown.has call (get_or entries call d) low (record { operation = o; reply = Some (Refused NoObject) }) there;
          names = to_contains (ids_of o) id own;
        })
        (λ (pending : P id). pending)
        (named_so P o (lists_before (g.drew call)).pending id (recorded call (omega arith) refl (record { operation = o; reply = Some (Refused NoObject) }) there) frees_none.pending names)
      where
        same : (x : Entry) → get_or entries call x ≡ get_or entries call d
        same x = Rattle.std.proofs.lemmas.List.get_or_default entries call x d low

    pub has_missed : HasMissCause b now pool image call o ⊎ ((lists_before (g.drew call)).pending.late ≡ true)
        → HasMissed pool entries call (get_or entries call d)
    has_missed (inr late) = absurd (both_ways (lists_before (g.drew call)).pending.late frees_none.pending.late late)
    has_missed (inl cause) = record {
      id = cause.id;
      named = is_named cause.id (to_has (ids_named (lists_before (g.drew call)).pending o) cause.id cause.named);
      why = ⊎_elim
          (λ other. inl (λ is. other (is ∙ sym pool_is)))
          (λ (rest : LackedObject b now pool image call cause.id.off ⊎ (is_gone (lists_before (g.drew call)) cause.id.off ≡ true)). ⊎_elim
          (λ lacked. inr (missed_before cause.id.off lacked))
          (λ gone. absurd (both_ways (is_gone (lists_before (g.drew call)) cause.id.off) (not_gone P (lists_before (g.drew call)) cause.id.off frees_none) gone))
          rest)
          cause.why;
    }
