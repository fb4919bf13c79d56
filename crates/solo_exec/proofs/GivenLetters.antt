-- What letters stand for stays, whatever is given by later lines; and lines with their letters resolved are of the same calls.
use Rattle.std.proofs.Common.{◌≡◌, ℕ, zero, suc, ◌+◌, ◌-◌, ◌<◌, ◌≤◌, ◌||◌, Bool, true, false, cond, All, List, [], ◌∷◌, ◌++◌, map, length, take, drop, get_or, slice_index, Option, None, Some, Result, Ok, Err, refl, sym, ap, ◌∙◌, subst, arith, append-nil, append_assoc}
use Rattle.std.specs.List.{filter_map, find, list_any}
use Rattle.std.specs.List.Sorted.{IsStrictlyIncreasing}
use Rattle.std.specs.Option.{option_map, option_map_or, option_or}
use Rattle.std.proofs.lemmas.Bool.{eq-eqb, eqb-true, ne_eqb}
use Rattle.std.proofs.lemmas.List.{length-map, map-append, take-append-drop, take_more}
use Rattle.std.proofs.lemmas.List.Elements.{All-cons, All-head, All-nil, All-tail, All-weaker, filter_map-append}
use Rattle.std.proofs.lemmas.List.Folds.{find-append}
use Rattle.pm_objects.specs.declared.calls.Operation.{Operation}
use Rattle.pm_objects.specs.declared.history.Entry.{Entry}
use Rattle.pm_objects.specs.declared.history.Reply.{Reply}
use Rattle.pm_objects.specs.declared.history.Value.{Value}
use Rattle.pm_objects.specs.declared.history.Value.TheVariants.{Bytes, Members, Number, Offset, Refused}
use Rattle.solo_script.specs.Scripts.{AreCalls, IsBoundBefore, IsChange, IsOutside, IsTransaction, NamesEarlierLines, ids_of, operations}
use Rattle.solo_script.specs.Scripts.AreCalls.{none, outside, transaction}
use Rattle.solo_script.specs.declared.script.ScriptId.{ScriptId}
use Rattle.solo_script.specs.declared.script.ScriptId.TheVariants.{At, Bound, Root}
use Rattle.solo_script.specs.declared.script.ScriptLine.{ScriptLine}
use Rattle.solo_script.specs.declared.script.ScriptOp.{ScriptOp}
use Rattle.solo_script.specs.declared.script.ScriptOp.TheVariants as op
use Rattle.solo_script.specs.declared.script.ScriptWant.{ScriptWant}
use Rattle.solo_exec.specs.Calls.{call_lines, call_of, operation_of, call_lines_from, ends_call, has_root, is_root, numbers_of, root_in, with_line}
use Rattle.solo_exec.specs.Histories.{closed_history, open_fate}
use Rattle.solo_exec.specs.Letters.{AreGiven, AreGivenTo, AreInOrder, AreTold, KeepsGiven, KeepsLetters, LettersKept, Offsets, is_of_line, offset_given, offset_in, offsets_in, offsets_of, resolved, resolved_id, resolved_line, resolved_op, resolved_want}
use Rattle.solo_exec.specs.Replies.{Values}
use Rattle.solo_exec.specs.Running.{open_entry}
use Rattle.pm_text.specs.declared.report.LaneEnd.TheVariants as end
use Rattle.solo_exec.specs.declared.calls.Names.{Names}
use Rattle.solo_exec.specs.declared.lines.NotDone.{NotDone}
use Rattle.solo_exec.specs.declared.lines.NotDone.TheVariants.{GivenUp, Memory, Spent, Stopped}
use Rattle.solo_exec.specs.declared.running.Halt.{Halt}

-- ---- what is given later

-- these offsets were given by no line before this number
abbrev pub AreBehind : ℕ → Offsets → Type 0
AreBehind n given = All (λ (g : ℕ × ℕ). n ≤ g.0) given

other_line : (line n : ℕ) (g : ℕ × ℕ) → line < n → n ≤ g.0 → is_of_line line g ≡ false
other_line line n g low high = go (is_of_line line g) refl where
  go : (b : Bool) → is_of_line line g ≡ b → is_of_line line g ≡ false
  go false is = is
  go true is = absurd (let same = eqb-true g.0 line is in omega (arith, same, low, high))

none_found : (line n : ℕ) (later : Offsets) → line < n → AreBehind n later → find (is_of_line line) later ≡ None
none_found line n [] low behind = refl
none_found line n (g ∷ later) low behind =
    ap (λ (b : Bool). cond b (Some g) (find (is_of_line line) later)) (other_line line n g low (All-head (λ (x : ℕ × ℕ). n ≤ x.0) g later behind))
    ∙ none_found line n later low (All-tail (λ (x : ℕ × ℕ). n ≤ x.0) g later behind)

or_none : {A : Type 0} (found : Option A) → option_or found None ≡ found
or_none None = refl
or_none (Some x) = refl

offset_stays : (given later : Offsets) (line n : ℕ) → line < n → AreBehind n later → offset_given (given ++ later) line ≡ offset_given given line
offset_stays given later line n low behind =
    ap (option_map (λ (g : ℕ × ℕ). g.1))
    (find-append (is_of_line line) given later ∙ (ap (option_or (find (is_of_line line) given)) (none_found line n later low behind) ∙ or_none (find (is_of_line line) given)))

id_stays : (given later : Offsets) (n : ℕ) (id : ScriptId) → IsBoundBefore n id → AreBehind n later → resolved_id (given ++ later) id ≡ resolved_id given id
id_stays given later n Root bound behind = refl
id_stays given later n (At off) bound behind = refl
id_stays given later n (Bound line) bound behind = ap (λ (found : Option ℕ). option_map_or At found (Bound line)) (offset_stays given later line n bound behind)

wants_stay : (given later : Offsets) (n : ℕ) (wants : List ScriptWant) → All (IsBoundBefore n) (map (λ (w : ScriptWant). w.id) wants) → AreBehind n later
    → map (resolved_want (given ++ later)) wants ≡ map (resolved_want given) wants
wants_stay given later n [] bound behind = refl
wants_stay given later n (w ∷ wants) bound behind =
    let Before = IsBoundBefore n in
    let one = id_stays given later n w.id (All-head Before w.id (map (λ (x : ScriptWant). x.id) wants) bound) behind in
    let more = wants_stay given later n wants (All-tail Before w.id (map (λ (x : ScriptWant). x.id) wants) bound) behind in
    λ i. record w { id = one i } ∷ more i

op_stays : (given later : Offsets) (n : ℕ) (x : ScriptOp) → All (IsBoundBefore n) (ids_of x) → AreBehind n later → resolved_op (given ++ later) x ≡ resolved_op given x
op_stays given later n (op.Begin wants) bound behind = ap op.Begin (wants_stay given later n wants bound behind)
op_stays given later n (op.Add id off len) bound behind = ap (λ (i : ScriptId). op.Add i off len) (id_stays given later n id (All-head (IsBoundBefore n) id [] bound) behind)
op_stays given later n (op.Write id off bytes) bound behind = ap (λ (i : ScriptId). op.Write i off bytes) (id_stays given later n id (All-head (IsBoundBefore n) id [] bound) behind)
op_stays given later n (op.Read id off len) bound behind = ap (λ (i : ScriptId). op.Read i off len) (id_stays given later n id (All-head (IsBoundBefore n) id [] bound) behind)
op_stays given later n (op.Alloc letter size kind) bound behind = refl
op_stays given later n (op.Free id) bound behind = ap op.Free (id_stays given later n id (All-head (IsBoundBefore n) id [] bound) behind)
op_stays given later n (op.Reserve letter size kind) bound behind = refl
op_stays given later n (op.WriteReserved id off bytes) bound behind = ap (λ (i : ScriptId). op.WriteReserved i off bytes) (id_stays given later n id (All-head (IsBoundBefore n) id [] bound) behind)
op_stays given later n (op.DeferFree id) bound behind = ap op.DeferFree (id_stays given later n id (All-head (IsBoundBefore n) id [] bound) behind)
op_stays given later n (op.Set id off value) bound behind = ap (λ (i : ScriptId). op.Set i off value) (id_stays given later n id (All-head (IsBoundBefore n) id [] bound) behind)
op_stays given later n op.Publish bound behind = refl
op_stays given later n op.Cancel bound behind = refl
op_stays given later n op.Commit bound behind = refl

-- a line that names earlier lines alone stands for the same, whatever is given behind its number
pub line_stays : (given later : Offsets) (l : ScriptLine) → NamesEarlierLines l → AreBehind l.line later → resolved_line (given ++ later) l ≡ resolved_line given l
line_stays given later l names behind = ap (λ (x : ScriptOp). record l { operation = x }) (op_stays given later l.line l.operation names behind)

-- values that lines from this number on gave have offsets that they gave
given_one : (n line : ℕ) (value : Value) (values : Values) → n ≤ line → AreBehind n (filter_map offset_in values) → AreBehind n (filter_map offset_in ((line, value) ∷ values))
given_one n line (Offset off) values low rest = All-cons (λ (g : ℕ × ℕ). n ≤ g.0) (line, off) (filter_map offset_in values) low rest
given_one n line (Number x) values low rest = rest
given_one n line (Bytes x) values low rest = rest
given_one n line (Members x) values low rest = rest
given_one n line (Refused x) values low rest = rest

given_by : (n : ℕ) (values : Values) → All (λ (g : ℕ × Value). n ≤ g.0) values → AreBehind n (offsets_in values)
unfolding offsets_in
given_by n [] by = All-nil (λ (g : ℕ × ℕ). n ≤ g.0)
given_by n ((line, value) ∷ values) by =
    given_one n line value values (All-head (λ (g : ℕ × Value). n ≤ g.0) (line, value) values by) (given_by n values (All-tail (λ (g : ℕ × Value). n ≤ g.0) (line, value) values by))

pub offsets_append : (values more : Values) → offsets_in (values ++ more) ≡ offsets_in values ++ offsets_in more
unfolding offsets_in
offsets_append values more = filter_map-append offset_in values more

-- what one line gave changes no letter of a line that does not stand behind it
pub letters_kept : (said : ScriptLine) (values more : Values) → All (λ (g : ℕ × Value). g.0 ≡ said.line) more → KeepsLetters (said ∷ []) values (values ++ more)
letters_kept said values more by given l names before =
    let low : l.line ≤ said.line = All-head (λ (other : ScriptLine). l.line ≤ other.line) said [] before in
    let behind : AreBehind l.line (offsets_in more) =
    given_by l.line more (All-weaker (λ (g : ℕ × Value). g.0 ≡ said.line) (λ (g : ℕ × Value). l.line ≤ g.0) (λ g is. omega (arith, is, low)) more by) in
    ap (λ (gs : Offsets). resolved_line gs l) (ap (λ (gs : Offsets). given ++ gs) (offsets_append values more) ∙ sym (append_assoc given (offsets_in values) (offsets_in more)))
    ∙ line_stays (given ++ offsets_in values) (offsets_in more) l names behind

pub letters_same : (lines : List ScriptLine) (values : Values) → KeepsLetters lines values values
letters_same lines values given l names before = refl

pub letters_then : (lines : List ScriptLine) (a b c : Values) → KeepsLetters lines a b → KeepsLetters lines b c → KeepsLetters lines a c
letters_then lines a b c first second given l names before = second given l names before ∙ first given l names before

-- one value that the line gave
pub letters_one : (said : ScriptLine) (values : Values) (value : Value) → KeepsLetters (said ∷ []) values (values ++ (said.line, value) ∷ [])
letters_one said values value = letters_kept said values ((said.line, value) ∷ []) (All-cons (λ (g : ℕ × Value). g.0 ≡ said.line) (said.line, value) [] refl (All-nil (λ (g : ℕ × Value). g.0 ≡ said.line)))

-- where nothing was given, whatever the answer
pub kept_as_they_are : {T : Type 0} (lines : List ScriptLine) (values : Values) (r : Result T NotDone) → LettersKept lines values values r
kept_as_they_are lines values (Ok x) = letters_same lines values
kept_as_they_are lines values (Err (GivenUp line r)) = letters_same lines values
kept_as_they_are lines values (Err Stopped) = letters_same lines values
kept_as_they_are lines values (Err (Spent line)) = letters_same lines values
kept_as_they_are lines values (Err (Memory e)) = tt

-- of lines that have this one's number alike
pub letters_of : (said other : ScriptLine) (a b : Values) → said.line ≡ other.line → KeepsLetters (said ∷ []) a b → KeepsLetters (other ∷ []) a b
letters_of said other a b same kept given l names before =
    let low : l.line ≤ other.line = All-head (λ (x : ScriptLine). l.line ≤ x.line) other [] before in
    kept given l names (All-cons (λ (x : ScriptLine). l.line ≤ x.line) said [] (omega (arith, low, same)) (All-nil (λ (x : ScriptLine). l.line ≤ x.line)))

-- ---- lines in their order

-- a line names earlier lines alone, and stands behind none of these
pub record StandsBefore (lines : List ScriptLine) (l : ScriptLine) : Type 0 where
  pub names : NamesEarlierLines l
  pub before : All (λ (other : ScriptLine). l.line ≤ other.line) lines

pub order_drop : (n : ℕ) (lines : List ScriptLine) → AreInOrder lines → AreInOrder (drop n lines)
order_drop zero lines all = all
order_drop (suc n) [] all = all
order_drop (suc n) (l ∷ lines) all = order_drop n lines all.2

pub all_take : (P : ScriptLine → Type 0) (n : ℕ) (lines : List ScriptLine) → All P lines → All P (take n lines)
all_take P zero lines all = All-nil P
all_take P (suc n) [] all = All-nil P
all_take P (suc n) (l ∷ lines) all = All-cons P l (take n lines) (All-head P l lines all) (all_take P n lines (All-tail P l lines all))

pub all_drop : (P : ScriptLine → Type 0) (n : ℕ) (lines : List ScriptLine) → All P lines → All P (drop n lines)
all_drop P zero lines all = all
all_drop P (suc n) [] all = all
all_drop P (suc n) (l ∷ lines) all = all_drop P n lines (All-tail P l lines all)

pub order_take : (n : ℕ) (lines : List ScriptLine) → AreInOrder lines → AreInOrder (take n lines)
order_take zero lines all = tt
order_take (suc n) [] all = tt
order_take (suc n) (l ∷ lines) all = (all.0, all_take (λ (other : ScriptLine). l.line < other.line) n lines all.1, order_take n lines all.2)

-- each of the first lines, up to one of them, stands before it
pub stand_before : (lines : List ScriptLine) → AreInOrder lines → (i : ℕ) (said : ScriptLine) → i < length lines → said ≡ get_or lines i said
    → All (StandsBefore (said ∷ [])) (take (i + 1) lines)
stand_before [] all i said low is = absurd (omega (arith, low))
stand_before (l ∷ lines) all zero said low is =
    All-cons (StandsBefore (said ∷ [])) l [] (record {
      names = all.0;
      before = All-cons (λ (other : ScriptLine). l.line ≤ other.line) said [] (let same = ap (λ (x : ScriptLine). x.line) is in omega (arith, same)) (All-nil (λ (other : ScriptLine). l.line ≤ other.line));
    }) (All-nil (StandsBefore (said ∷ [])))
stand_before (l ∷ lines) all (suc i) said low is =
    let first : l.line < (get_or lines i said).line = at_index lines all.1 i said (omega (arith, low)) in
    let next : suc (i + 1) ≡ suc i + 1 = omega arith in
    subst (λ (n : ℕ). All (StandsBefore (said ∷ [])) (take n (l ∷ lines))) next
    (All-cons (StandsBefore (said ∷ [])) l (take (i + 1) lines) (record {
      names = all.0;
      before = All-cons (λ (other : ScriptLine). l.line ≤ other.line) said [] (let same = ap (λ (x : ScriptLine). x.line) is in omega (arith, same, first)) (All-nil (λ (other : ScriptLine). l.line ≤ other.line));
    }) (stand_before lines all.2 i said (omega (arith, low)) is))
  where
    at_index : (ls : List ScriptLine) → All (λ (other : ScriptLine). l.line < other.line) ls → (k : ℕ) (d : ScriptLine) → k < length ls → l.line < (get_or ls k d).line
    at_index [] those k d inside = absurd (omega (arith, inside))
    at_index (x ∷ ls) those zero d inside = All-head (λ (other : ScriptLine). l.line < other.line) x ls those
    at_index (x ∷ ls) those (suc k) d inside = at_index ls (All-tail (λ (other : ScriptLine). l.line < other.line) x ls those) k d (omega (arith, inside))

-- a line names earlier lines alone, and stands before all of these; so do the lines of a call, which has some
pub record IsAbove (lines : List ScriptLine) (l : ScriptLine) : Type 0 where
  pub names : NamesEarlierLines l
  pub above : All (λ (other : ScriptLine). l.line < other.line) lines

abbrev pub AreAbove : List ScriptLine → List ScriptLine → Type 0
AreAbove lines call = (1 ≤ length call) × All (IsAbove lines) call

above_stands : (n : ℕ) (lines : List ScriptLine) (l : ScriptLine) → IsAbove lines l → StandsBefore (take n lines) l
above_stands n lines l is = record {
  names = is.names;
  before = all_take (λ (other : ScriptLine). l.line ≤ other.line) n lines (All-weaker (λ (other : ScriptLine). l.line < other.line) (λ (other : ScriptLine). l.line ≤ other.line) (λ x less. omega (arith, less)) lines is.above);
}

above_rest : (n : ℕ) (lines : List ScriptLine) (l : ScriptLine) → IsAbove lines l → IsAbove (drop n lines) l
above_rest n lines l is = record { names = is.names; above = all_drop (λ (other : ScriptLine). l.line < other.line) n lines is.above }

-- they stand before the front of these, and above those behind it
pub calls_stand : (n : ℕ) (lines : List ScriptLine) (calls : List (List ScriptLine)) → All (AreAbove lines) calls → All (λ (call : List ScriptLine). All (StandsBefore (take n lines)) call) calls
calls_stand n lines calls all =
    All-weaker (AreAbove lines) (λ (call : List ScriptLine). All (StandsBefore (take n lines)) call) (λ call are. All-weaker (IsAbove lines) (StandsBefore (take n lines)) (above_stands n lines) call are.1) calls all

pub calls_above : (n : ℕ) (lines : List ScriptLine) (calls : List (List ScriptLine)) → All (AreAbove lines) calls → All (AreAbove (drop n lines)) calls
calls_above n lines calls all =
    All-weaker (AreAbove lines) (AreAbove (drop n lines)) (λ call are. (are.0, All-weaker (IsAbove lines) (IsAbove (drop n lines)) (above_rest n lines) call are.1)) calls all

-- the front of lines in order is above those behind it
pub front_above : (n : ℕ) (lines : List ScriptLine) → AreInOrder lines → All (IsAbove (drop n lines)) (take n lines)
front_above zero lines all = All-nil (IsAbove lines)
front_above (suc n) [] all = All-nil (IsAbove [])
front_above (suc n) (l ∷ lines) all =
    All-cons (IsAbove (drop n lines)) l (take n lines) (record { names = all.0; above = all_drop (λ (other : ScriptLine). l.line < other.line) n lines all.1 }) (front_above n lines all.2)

-- lines that stand before others stand for what they stood for
pub all_stay : (lines ls : List ScriptLine) (old new : Offsets) → KeepsGiven lines old new → All (StandsBefore lines) ls → resolved new ls ≡ resolved old ls
all_stay lines [] old new keeps stand = refl
all_stay lines (l ∷ ls) old new keeps stand =
    let s : StandsBefore lines l = All-head (StandsBefore lines) l ls stand in
    let one = keeps l s.names s.before in
    let more = all_stay lines ls old new keeps (All-tail (StandsBefore lines) l ls stand) in
    λ i. one i ∷ more i

pub calls_stay : (lines : List ScriptLine) (calls : List (List ScriptLine)) (old new : Offsets) → KeepsGiven lines old new → All (λ (call : List ScriptLine). All (StandsBefore lines) call) calls
    → map (resolved new) calls ≡ map (resolved old) calls
calls_stay lines [] old new keeps stand = refl
calls_stay lines (call ∷ calls) old new keeps stand =
    let Stand = λ (c : List ScriptLine). All (StandsBefore lines) c in
    let one = all_stay lines call old new keeps (All-head Stand call calls stand) in
    let more = calls_stay lines calls old new keeps (All-tail Stand call calls stand) in
    λ i. one i ∷ more i

-- lines of rising numbers that name earlier lines alone are in order
pub in_order : (lines : List ScriptLine) → IsStrictlyIncreasing (numbers_of lines) → All NamesEarlierLines lines → AreInOrder lines
in_order [] rising names = tt
in_order (l ∷ lines) rising names =
    (All-head NamesEarlierLines l lines names, above l.line lines rising, in_order lines (behind l.line (numbers_of lines) rising) (All-tail NamesEarlierLines l lines names))
  where
    behind : (x : ℕ) (xs : List ℕ) → IsStrictlyIncreasing (x ∷ xs) → IsStrictlyIncreasing xs
    behind x xs rise k low =
        let next : suc k + 1 ≡ suc (k + 1) = omega arith in
        subst (λ (i : ℕ). slice_index xs k < slice_index (x ∷ xs) i) next (rise (suc k) (omega (arith, low)))

    lower : (x y : ℕ) (xs : List ℕ) → x < y → IsStrictlyIncreasing (y ∷ xs) → IsStrictlyIncreasing (x ∷ xs)
    lower x y [] less rise k low = absurd (omega (arith, low))
    lower x y (z ∷ xs) less rise zero low = let next = rise zero low in omega (arith, less, next)
    lower x y (z ∷ xs) less rise (suc k) low =
        let next : suc k + 1 ≡ suc (k + 1) = omega arith in
        subst (λ (i : ℕ). slice_index (z ∷ xs) k < slice_index (x ∷ z ∷ xs) i) (sym next) (subst (λ (i : ℕ). slice_index (z ∷ xs) k < slice_index (y ∷ z ∷ xs) i) next (rise (suc k) low))

    above : (x : ℕ) (ls : List ScriptLine) → IsStrictlyIncreasing (x ∷ numbers_of ls) → All (λ (other : ScriptLine). x < other.line) ls
    above x [] rise = All-nil (λ (other : ScriptLine). x < other.line)
    above x (y ∷ ls) rise =
        let first : x < y.line = rise zero (omega arith) in
        All-cons (λ (other : ScriptLine). x < other.line) y ls first (above x ls (lower x y.line (numbers_of ls) first (behind x (y.line ∷ numbers_of ls) rise)))

-- ---- lines with their letters resolved

pub numbers_resolved : (given : Offsets) (lines : List ScriptLine) → numbers_of (resolved given lines) ≡ numbers_of lines
numbers_resolved given [] = refl
numbers_resolved given (l ∷ lines) = ap (λ (ns : List ℕ). l.line ∷ ns) (numbers_resolved given lines)

pub operations_resolved : (given : Offsets) (lines : List ScriptLine) → operations (resolved given lines) ≡ map (resolved_op given) (operations lines)
operations_resolved given [] = refl
operations_resolved given (l ∷ lines) = ap (λ (ops : List ScriptOp). resolved_op given l.operation ∷ ops) (operations_resolved given lines)

pub change_resolved : (given : Offsets) (x : ScriptOp) → IsChange x → IsChange (resolved_op given x)
change_resolved given (op.Begin wants) change = change
change_resolved given (op.Add id off len) change = change
change_resolved given (op.Write id off bytes) change = change
change_resolved given (op.Read id off len) change = change
change_resolved given (op.Alloc letter size kind) change = change
change_resolved given (op.Free id) change = change
change_resolved given (op.Reserve letter size kind) change = change
change_resolved given (op.WriteReserved id off bytes) change = change
change_resolved given (op.DeferFree id) change = change
change_resolved given (op.Set id off value) change = change
change_resolved given op.Publish change = change
change_resolved given op.Cancel change = change
change_resolved given op.Commit change = change

pub all_resolved : (given : Offsets) (P : ScriptOp → Type 0) → ((x : ScriptOp) → P x → P (resolved_op given x)) → (ops : List ScriptOp) → All P ops → All P (map (resolved_op given) ops)
all_resolved given P keeps [] all = All-nil P
all_resolved given P keeps (x ∷ ops) all = All-cons P (resolved_op given x) (map (resolved_op given) ops) (keeps x (All-head P x ops all)) (all_resolved given P keeps ops (All-tail P x ops all))

transaction_so : (given : Offsets) (ops : List ScriptOp) → IsTransaction ops → IsTransaction (map (resolved_op given) ops)
transaction_so given ops t = (
  map (resolved_want given) t.0,
  map (resolved_op given) t.1,
  ap (map (resolved_op given)) t.2 ∙ ap (λ (xs : List ScriptOp). op.Begin (map (resolved_want given) t.0) ∷ xs) (map-append (resolved_op given) t.1 (op.Commit ∷ [])),
  all_resolved given IsChange (change_resolved given) t.1 t.3,
)

pub transaction_resolved : (given : Offsets) (lines : List ScriptLine) → IsTransaction (operations lines) → IsTransaction (operations (resolved given lines))
transaction_resolved given lines t = subst IsTransaction (sym (operations_resolved given lines)) (transaction_so given (operations lines) t)

outside_resolved : (given : Offsets) (x : ScriptOp) → IsOutside x → IsOutside (resolved_op given x)
outside_resolved given (op.Begin wants) may = may
outside_resolved given (op.Add id off len) may = may
outside_resolved given (op.Write id off bytes) may = may
outside_resolved given (op.Read id off len) may = may
outside_resolved given (op.Alloc letter size kind) may = may
outside_resolved given (op.Free id) may = may
outside_resolved given (op.Reserve letter size kind) may = may
outside_resolved given (op.WriteReserved id off bytes) may = may
outside_resolved given (op.DeferFree id) may = may
outside_resolved given (op.Set id off value) may = may
outside_resolved given op.Publish may = may
outside_resolved given op.Cancel may = may
outside_resolved given op.Commit may = may

calls_so : (given : Offsets) (ops : List ScriptOp) → AreCalls ops → AreCalls (map (resolved_op given) ops)
calls_so given ops none = none
calls_so given ops (transaction one others t rest) =
    subst AreCalls (sym (map-append (resolved_op given) one others)) (transaction (map (resolved_op given) one) (map (resolved_op given) others) (transaction_so given one t) (calls_so given others rest))
calls_so given ops (outside one others alone rest) = outside (resolved_op given one) (map (resolved_op given) others) (outside_resolved given one alone) (calls_so given others rest)

ends_so : (given : Offsets) (inside : Bool) (x : ScriptOp) → ends_call inside (resolved_op given x) ≡ ends_call inside x
ends_so given true (op.Begin wants) = refl
ends_so given true (op.Add id off len) = refl
ends_so given true (op.Write id off bytes) = refl
ends_so given true (op.Read id off len) = refl
ends_so given true (op.Alloc letter size kind) = refl
ends_so given true (op.Free id) = refl
ends_so given true (op.Reserve letter size kind) = refl
ends_so given true (op.WriteReserved id off bytes) = refl
ends_so given true (op.DeferFree id) = refl
ends_so given true (op.Set id off value) = refl
ends_so given true op.Publish = refl
ends_so given true op.Cancel = refl
ends_so given true op.Commit = refl
ends_so given false (op.Begin wants) = refl
ends_so given false (op.Add id off len) = refl
ends_so given false (op.Write id off bytes) = refl
ends_so given false (op.Read id off len) = refl
ends_so given false (op.Alloc letter size kind) = refl
ends_so given false (op.Free id) = refl
ends_so given false (op.Reserve letter size kind) = refl
ends_so given false (op.WriteReserved id off bytes) = refl
ends_so given false (op.DeferFree id) = refl
ends_so given false (op.Set id off value) = refl
ends_so given false op.Publish = refl
ends_so given false op.Cancel = refl
ends_so given false op.Commit = refl

with_line_so : (given : Offsets) (l : ScriptLine) (calls : List (List ScriptLine)) → with_line (resolved_line given l) (map (resolved given) calls) ≡ map (resolved given) (with_line l calls)
with_line_so given l [] = refl
with_line_so given l (call ∷ calls) = refl

one_line_so : (given : Offsets) (l : ScriptLine) (lines : List ScriptLine)
    → call_lines_from false (resolved given lines) ≡ map (resolved given) (call_lines_from false lines) → call_lines_from true (resolved given lines) ≡ map (resolved given) (call_lines_from true lines)
    → (b : Bool) → cond b ((resolved_line given l ∷ []) ∷ call_lines_from false (resolved given lines)) (with_line (resolved_line given l) (call_lines_from true (resolved given lines)))
    ≡ map (resolved given) (cond b ((l ∷ []) ∷ call_lines_from false lines) (with_line l (call_lines_from true lines)))
one_line_so given l lines apart within true = ap (λ (cs : List (List ScriptLine)). (resolved_line given l ∷ []) ∷ cs) apart
one_line_so given l lines apart within false = ap (with_line (resolved_line given l)) within ∙ with_line_so given l (call_lines_from true lines)

lines_so : (given : Offsets) (inside : Bool) (lines : List ScriptLine) → call_lines_from inside (resolved given lines) ≡ map (resolved given) (call_lines_from inside lines)
unfolding call_lines_from
lines_so given inside [] = refl
lines_so given inside (l ∷ lines) =
    ap (λ (b : Bool). cond b ((resolved_line given l ∷ []) ∷ call_lines_from false (resolved given lines)) (with_line (resolved_line given l) (call_lines_from true (resolved given lines)))) (ends_so given inside l.operation)
    ∙ one_line_so given l lines (lines_so given false lines) (lines_so given true lines) (ends_call inside l.operation)

-- the calls of resolved lines are the calls, resolved
pub call_lines_resolved : (given : Offsets) (lines : List ScriptLine) → call_lines (resolved given lines) ≡ map (resolved given) (call_lines lines)
call_lines_resolved given lines = lines_so given false lines

-- a letter is not the word `root`
id_rootless : (given : Offsets) (id : ScriptId) → is_root (resolved_id given id) ≡ is_root id
id_rootless given Root = refl
id_rootless given (At off) = refl
id_rootless given (Bound line) = found (offset_given given line) where
  found : (x : Option ℕ) → is_root (option_map_or At x (Bound line)) ≡ false
  found None = refl
  found (Some off) = refl

wants_rootless : (given : Offsets) (wants : List ScriptWant) → list_any (λ (w : ScriptWant). is_root w.id) (map (resolved_want given) wants) ≡ list_any (λ (w : ScriptWant). is_root w.id) wants
wants_rootless given [] = refl
wants_rootless given (w ∷ wants) = λ i. id_rootless given w.id i || wants_rootless given wants i

root_so : (given : Offsets) (x : ScriptOp) → has_root (resolved_op given x) ≡ has_root x
root_so given (op.Begin wants) = wants_rootless given wants
root_so given (op.Add id off len) = id_rootless given id
root_so given (op.Write id off bytes) = id_rootless given id
root_so given (op.Read id off len) = id_rootless given id
root_so given (op.Alloc letter size kind) = refl
root_so given (op.Free id) = id_rootless given id
root_so given (op.Reserve letter size kind) = refl
root_so given (op.WriteReserved id off bytes) = id_rootless given id
root_so given (op.DeferFree id) = id_rootless given id
root_so given (op.Set id off value) = id_rootless given id
root_so given op.Publish = refl
root_so given op.Cancel = refl
root_so given op.Commit = refl

any_root : (given : Offsets) (lines : List ScriptLine) → list_any (λ (l : ScriptLine). has_root l.operation) (resolved given lines) ≡ list_any (λ (l : ScriptLine). has_root l.operation) lines
any_root given [] = refl
any_root given (l ∷ lines) = λ i. root_so given l.operation i || any_root given lines i

pub root_resolved : (names : Names) (given : Offsets) (lines : List ScriptLine) → root_in names (resolved given lines) ≡ root_in names lines
root_resolved names given lines = ap (λ (b : Bool). cond b (Some names.root.off) None) (any_root given lines)

-- ---- what a run gave

offsets_more : (history : List Entry) (e : Entry) → offsets_of (history ++ e ∷ []) ≡ offsets_of history ++ offsets_in e.reply.values
unfolding offsets_of
offsets_more [] e = append-nil (offsets_in e.reply.values)
offsets_more (x ∷ history) e = ap (λ (g : Offsets). offsets_in x.reply.values ++ g) (offsets_more history e) ∙ sym (append_assoc (offsets_in x.reply.values) (offsets_of history) (offsets_in e.reply.values))

-- one more call was answered
pub given_answered : (history : List Entry) (e : Entry) (given : Offsets) → given ≡ offsets_of history → given ++ offsets_in e.reply.values ≡ offsets_of (history ++ e ∷ [])
given_answered history e given is = ap (λ (g : Offsets). g ++ offsets_in e.reply.values) is ∙ sym (offsets_more history e)

-- the history is closed with the call that was not answered
pub given_closed : (history : List Entry) (halt : Halt) (decided : Bool) (given : Offsets) (all : List Entry) → closed_history history halt.is_open decided ≡ all → AreGivenTo history halt given → AreTold history given → AreGiven all halt.end given
given_closed history halt decided given all is to told = subst (λ (es : List Entry). AreGiven es halt.end given) is (go halt.is_open refl) where
  go : (open_ : Option Entry) → halt.is_open ≡ open_ → AreGiven (closed_history history open_ decided) halt.end given
  go None lacks = record { rest = to.rest; are = to.are; told = told; whole = to.none }
  go (Some e) some =
      let all : given ≡ offsets_of (history ++ record e { fate = open_fate decided } ∷ []) =
      to.are ∙ (ap (λ (g : Offsets). offsets_of history ++ g) (to.opened e some) ∙ sym (offsets_more history (record e { fate = open_fate decided }))) in
      record {
        rest = [];
        are = all ∙ sym (append-nil _);
        told = λ x line there low. ap (λ (g : Offsets). offset_given g line) all;
        whole = λ ended. refl;
      }

-- where letters are kept, what a line before these gave is the same
pub given_kept : (lines : List ScriptLine) (old new : Offsets) → KeepsGiven lines old new → (line : ℕ) → All (λ (other : ScriptLine). line < other.line) lines → offset_given new line ≡ offset_given old line
given_kept lines old new keeps line low =
    let asks : ScriptLine = record { line = line + 1; lane = 0; operation = op.Free (Bound line) } in
    let names : NamesEarlierLines asks = All-cons (IsBoundBefore (line + 1)) (Bound line) [] (omega arith) (All-nil (IsBoundBefore (line + 1))) in
    let same = keeps asks names (All-weaker (λ (other : ScriptLine). line < other.line) (λ (other : ScriptLine). line + 1 ≤ other.line) (λ x less. omega (arith, less)) lines low) in
    found (offset_given new line) (offset_given old line) (ap (λ (l : ScriptLine). freed l.operation) same)
  where
    freed : ScriptOp → ScriptId
    freed (op.Free id) = id
    freed x = Root

    found : (a b : Option ℕ) → option_map_or At a (Bound line) ≡ option_map_or At b (Bound line) → a ≡ b
    found None None same = refl
    found (Some x) (Some y) same = ap Some cc
    found None (Some y) same = absurd cc
    found (Some x) None same = absurd cc

-- ---- an offset is looked for

unfound : (found : Option (ℕ × ℕ)) → option_map (λ (g : ℕ × ℕ). g.1) found ≡ None → found ≡ None
unfound None lacks = refl
unfound (Some g) lacks = absurd cc

-- where none is among the first, it is that among those behind them
pub found_behind : (front behind : Offsets) (line : ℕ) → offset_given front line ≡ None → offset_given (front ++ behind) line ≡ offset_given behind line
found_behind front behind line lacks =
    ap (option_map (λ (g : ℕ × ℕ). g.1)) (find-append (is_of_line line) front behind ∙ ap (λ (f : Option (ℕ × ℕ)). option_or f (find (is_of_line line) behind)) (unfound (find (is_of_line line) front) lacks))

-- and else it is that
pub found_before : (front behind : Offsets) (line off : ℕ) → offset_given front line ≡ Some off → offset_given (front ++ behind) line ≡ Some off
found_before front behind line off some =
    ap (option_map (λ (g : ℕ × ℕ). g.1)) (find-append (is_of_line line) front behind) ∙ (first (find (is_of_line line) front) (find (is_of_line line) behind) some ∙ some)
  where
    first : (f g : Option (ℕ × ℕ)) → option_map (λ (x : ℕ × ℕ). x.1) f ≡ Some off → option_map (λ (x : ℕ × ℕ). x.1) (option_or f g) ≡ option_map (λ (x : ℕ × ℕ). x.1) f
    first (Some x) g is = refl
    first None g is = absurd cc

-- the values up to one more
pub values_taken : (values : Values) (i : ℕ) (v : ℕ × Value) → i < length values → v ≡ get_or values i v → offsets_in (take (i + 1) values) ≡ offsets_in (take i values) ++ offsets_in (v ∷ [])
values_taken values i v low is =
    ap offsets_in (take_more values i v low ∙ ap (λ (x : ℕ × Value). take i values ++ x ∷ []) (sym is)) ∙ offsets_append (take i values) (v ∷ [])

-- a value that is no offset gives none
pub no_offset : (line : ℕ) (v : Value) → ((off : ℕ) → v ≡ Offset off → ⊥) → offsets_in ((line, v) ∷ []) ≡ []
unfolding offsets_in
no_offset line (Offset off) lacks = absurd (lacks off refl)
no_offset line (Number x) lacks = refl
no_offset line (Bytes x) lacks = refl
no_offset line (Members x) lacks = refl
no_offset line (Refused x) lacks = refl

pub one_offset : (line off : ℕ) (v : Value) → v ≡ Offset off → offsets_in ((line, v) ∷ []) ≡ (line, off) ∷ []
unfolding offsets_in
one_offset line off v is = ap (λ (x : Value). filter_map offset_in ((line, x) ∷ [])) is

passed_offset : (n off line : ℕ) → (n ≡ line → ⊥) → offset_given ((n, off) ∷ []) line ≡ None
passed_offset n off line other = ap (λ (b : Bool). option_map (λ (g : ℕ × ℕ). g.1) (cond b (Some (n, off)) None)) (ne_eqb n line other)

passed : (line n : ℕ) (v : Value) → ((off : ℕ) → v ≡ Offset off → n ≡ line → ⊥) → offset_given (offsets_in ((n, v) ∷ [])) line ≡ None
unfolding offsets_in
passed line n (Offset off) other = passed_offset n off line (other off refl)
passed line n (Number x) other = refl
passed line n (Bytes x) other = refl
passed line n (Members x) other = refl
passed line n (Refused x) other = refl

module _ (values : Values) (line i : ℕ) (v : ℕ × Value) (low : i < length values) (is : v ≡ get_or values i v) (lacks : offset_given (offsets_in (take i values)) line ≡ None) where
  behind_first : offset_given (offsets_in (take (i + 1) values)) line ≡ offset_given (offsets_in (v ∷ [])) line
  behind_first = ap (λ (g : Offsets). offset_given g line) (values_taken values i v low is) ∙ found_behind (offsets_in (take i values)) (offsets_in (v ∷ [])) line lacks

  -- the line gave this value
  pub value_found : (off : ℕ) → v.1 ≡ Offset off → v.0 ≡ line → offset_given (offsets_in values) line ≡ Some off
  value_found off is_off of_line =
      let here : offset_given ((v.0, off) ∷ []) line ≡ Some off = ap (λ (b : Bool). option_map (λ (g : ℕ × ℕ). g.1) (cond b (Some (v.0, off)) None)) (eq-eqb v.0 line of_line) in
      let taken : offset_given (offsets_in (take (i + 1) values)) line ≡ Some off = behind_first ∙ (ap (λ (g : Offsets). offset_given g line) (one_offset v.0 off v.1 is_off) ∙ here) in
      ap (λ (vs : Values). offset_given (offsets_in vs) line) (sym (take-append-drop (i + 1) values))
      ∙ (ap (λ (g : Offsets). offset_given g line) (offsets_append (take (i + 1) values) (drop (i + 1) values))
      ∙ found_before (offsets_in (take (i + 1) values)) (offsets_in (drop (i + 1) values)) line off taken)

  -- it is another line's, or no offset
  pub value_passed : ((off : ℕ) → v.1 ≡ Offset off → v.0 ≡ line → ⊥) → offset_given (offsets_in (take (i + 1) values)) line ≡ None
  value_passed other = behind_first ∙ passed line v.0 v.1 other

pub none_more : (given : Offsets) → given ++ offsets_in [] ≡ given
unfolding offsets_in
none_more given = append-nil given

pub none_first : (line : ℕ) → offset_given (offsets_in []) line ≡ None
unfolding offsets_in
none_first line = refl

-- ---- what values give is added to what was given

module _ (given : Offsets) (values : Values) (i : ℕ) (v : ℕ × Value) (low : i < length values) (is : v ≡ get_or values i v) (old new : Offsets) (so_far : old ≡ given ++ offsets_in (take i values)) where
  pub gives_one : (off : ℕ) → v.1 ≡ Offset off → new ≡ old ++ (v.0, off) ∷ [] → new ≡ given ++ offsets_in (take (i + 1) values)
  gives_one off is_off pushed =
      pushed
      ∙ (ap (λ (g : Offsets). g ++ (v.0, off) ∷ []) so_far
      ∙ (append_assoc given (offsets_in (take i values)) ((v.0, off) ∷ [])
      ∙ ap (λ (g : Offsets). given ++ g) (ap (λ (g : Offsets). offsets_in (take i values) ++ g) (sym (one_offset v.0 off v.1 is_off)) ∙ sym (values_taken values i v low is))))

  pub gives_none : ((off : ℕ) → v.1 ≡ Offset off → ⊥) → new ≡ old → new ≡ given ++ offsets_in (take (i + 1) values)
  gives_none other same =
      same
      ∙ (so_far
      ∙ ap (λ (g : Offsets). given ++ g)
      (sym (append-nil (offsets_in (take i values))) ∙ (ap (λ (g : Offsets). offsets_in (take i values) ++ g) (sym (no_offset v.0 v.1 other)) ∙ sym (values_taken values i v low is))))

-- ---- the call that resolved lines are

pub operations_taken : (names : Names) (given : Offsets) (lines : List ScriptLine) (i : ℕ) (l : ScriptLine) → i < length lines → l ≡ get_or lines i l
    → map (λ (x : ScriptLine). operation_of names x.operation) (resolved given (take (i + 1) lines))
    ≡ map (λ (x : ScriptLine). operation_of names x.operation) (resolved given (take i lines)) ++ operation_of names (resolved_line given l).operation ∷ []
operations_taken names given lines i l low is =
    ap (λ (ls : List ScriptLine). map (λ (x : ScriptLine). operation_of names x.operation) (resolved given ls)) (take_more lines i l low ∙ ap (λ (x : ScriptLine). take i lines ++ x ∷ []) (sym is))
    ∙ (ap (map (λ (x : ScriptLine). operation_of names x.operation)) (map-append (resolved_line given) (take i lines) (l ∷ []))
    ∙ map-append (λ (x : ScriptLine). operation_of names x.operation) (resolved given (take i lines)) (resolved_line given l ∷ []))

number_at : (lines : List ScriptLine) (i : ℕ) (d : ScriptLine) → i < length lines → slice_index (numbers_of lines) i ≡ (get_or lines i d).line
number_at [] i d low = absurd (omega (arith, low))
number_at (x ∷ lines) zero d low = refl
number_at (x ∷ lines) (suc i) d low = number_at lines i d (omega (arith, low))

pub call_resolved : (names : Names) (given : Offsets) (lines : List ScriptLine) (first last : ScriptLine) → 1 ≤ length lines
    → (root : Option ℕ) → root ≡ root_in names lines → (operations : List Operation) → operations ≡ map (λ (x : ScriptLine). operation_of names x.operation) (resolved given lines)
    → record { lane = 0; first = (get_or lines 0 first).line; last = (get_or lines (length lines - 1) last).line; root = root; operations = operations } ≡ call_of names (resolved given lines)
call_resolved names given lines first last some root is_root operations are =
    let numbers : numbers_of (resolved given lines) ≡ numbers_of lines = numbers_resolved given lines in
    let long : length (resolved given lines) ≡ length lines = length-map lines (resolved_line given) in
    let one : (get_or lines 0 first).line ≡ slice_index (numbers_of (resolved given lines)) 0 = sym (ap (λ (ns : List ℕ). slice_index ns 0) numbers ∙ number_at lines 0 first (omega (arith, some))) in
    let other : (get_or lines (length lines - 1) last).line ≡ slice_index (numbers_of (resolved given lines)) (length (resolved given lines) - 1) =
    sym (ap (λ (n : ℕ). slice_index (numbers_of (resolved given lines)) (n - 1)) long ∙ (ap (λ (ns : List ℕ). slice_index ns (length lines - 1)) numbers ∙ number_at lines (length lines - 1) last (omega (arith, some)))) in
    let rooted : root ≡ root_in names (resolved given lines) = is_root ∙ sym (root_resolved names given lines) in
    λ i. record { lane = 0; first = one i; last = other i; root = rooted i; operations = are i }

-- ---- a call that came to its end

-- the entry of the call that was not answered has its reply, if it has one
pub given_open : (history : List Entry) (names : Names) (lines : List ScriptLine) (number : Option ℕ) (reply : Reply) (halt : Halt) (old new : Offsets) → halt.is_open ≡ open_entry names lines number reply
    → (calls : ℕ) → halt.end ≡ end.Stopped calls → old ≡ offsets_of history → new ≡ old ++ offsets_in reply.values → AreGivenTo history halt new
given_open history names lines number reply halt old new is_open calls ends were is = record {
  rest = offsets_in reply.values;
  are = is ∙ ap (λ (g : Offsets). g ++ offsets_in reply.values) were;
  opened = λ e some. ap (λ (r : Reply). offsets_in r.values) (sym (of_entry number e (sym is_open ∙ some)));
  none = λ never. absurd (never calls ends);
}
  where
    reply_in : Option Entry → Reply
    reply_in None = reply
    reply_in (Some y) = y.reply

    of_entry : (n : Option ℕ) (e : Entry) → open_entry names lines n reply ≡ Some e → e.reply ≡ reply
    of_entry None e clash = absurd cc
    of_entry (Some x) e same = ap reply_in (sym same)

-- a call that could not begin gave nothing
pub given_unbegun : (history : List Entry) (halt : Halt) (given : Offsets) (line : ℕ) → halt.is_open ≡ None → halt.end ≡ end.Spent line → given ≡ offsets_of history → AreGivenTo history halt given
given_unbegun history halt given line is_open ends were = record {
  rest = [];
  are = were ∙ sym (append-nil (offsets_of history));
  opened = λ e some. absurd (let clash : None ≡ Some e = sym is_open ∙ some in cc);
  none = λ never. refl;
}

-- letters that a call's values keep are kept by what was given behind it
pub given_keeps : (lines : List ScriptLine) (values : Values) (old new : Offsets) → KeepsLetters lines [] values → new ≡ old ++ offsets_in values → KeepsGiven lines old new
given_keeps lines values old new kept is l names before =
    ap (λ (g : Offsets). resolved_line g l) is ∙ (kept old l names before ∙ ap (λ (g : Offsets). resolved_line g l) (none_more old))
