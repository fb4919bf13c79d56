-- Why the commands of the program fail, and that they do not where nothing is wrong.
use Rattle.std.proofs.Common.{◌≡◌, ◌⊎◌, inl, inr, ⊎_elim, ℕ, ◌+◌, ◌*◌, ◌/◌, ◌%◌, ◌<◌, ◌≤◌, List, length, Option, Some, None, IsSome, Result, Ok, Err, IfErr, IsErrAnd, refl, sym, ◌∙◌, ap, subst, arith}
use Rattle.std.proofs.lemmas.Bool.{false≢true}
use Rattle.std.proofs.lemmas.List.FromFn.{length-map-range_with_len}
use Rattle.pm_words.specs.Words.{words_of, word_at}
use Rattle.pm_objects.specs.declared.pool.PoolView.{PoolView}
use Rattle.pm_image.specs.Means.{IsMeaning}
use Rattle.pm_image.specs.Steps.{IfImage}
use Rattle.pm_image.specs.declared.fault.MeansFault.{MeansFault}
use Rattle.pm_image.specs.declared.fault.MeansFault.TheVariants.{Image, Memory}
use Rattle.pm_image.specs.declared.fault.ImageFault.{ImageFault}
use Rattle.pm_image.proofs.Meanings.{no_meaning_and_fault, one_meaning}
use Rattle.pm_options.specs.Words.{Check, Create, Exec, IsCheck, IsCreate, IsDump, IsExec, IsInfo, IsRecover, Recover}
use Rattle.pm_pool.specs.Created.{Wanted}
use Rattle.pm_pool.specs.declared.creating.CreateFault.TheVariants.{BadId, BadLayout, BadSize}
use Rattle.pm_calls.specs.Calls.{beyond_lanes}
use Rattle.pm_script.proofs.NamedLanes.{some_lane}
use Rattle.pm_script.proofs.Readings.{not_both as no_script_and_bad_line}
use Rattle.pm_script.specs.Scripts.{IsBadLine, IsScript}
use Rattle.pm_script.specs.Words.{lines}
use Rattle.pm_script.specs.declared.fault.BadLine.{BadLine}
use Rattle.pm_script.specs.declared.fault.Why.TheVariants.{Word}
use Rattle.pm_script.specs.declared.script.Script.{Script}
use Rattle.pm_shelf.specs.Outside.{Held, Rose, IsMissing, IsThere, IsWhole}
use Rattle.pm_commands.specs.Answers.{DidFail, IsCauseOf}
use Rattle.pm_commands.specs.Checked.{HasFaultLeft, IsRepair}
use Rattle.pm_commands.specs.Created.{HasGoodValues, IsValueCause}
use Rattle.pm_commands.specs.Executed.{AreOfFewerLanes, AreOfOtherLayout, CanRun, IsRunFault, IsRunOf, MayRunOn, script_limit}
use Rattle.pm_commands.specs.Failures.{IsCauseBefore, IsCheckCause, IsCreateCause, IsExecCause, IsReadCause, IsRecoverCause, IsShowCause, IsWriteCause, failure_of}
use Rattle.pm_commands.specs.Lines.{failure_status}
use Rattle.pm_commands.specs.PoolFiles.{limit, BytesMean, BytesFail, Mends}
use Rattle.pm_commands.specs.Recovered.{CanRecover, IsRecoveryOf}
use Rattle.pm_commands.specs.Ways.{IsRefusedLine}
use Rattle.pm_commands.specs.declared.failure.Failure.{Failure}
use Rattle.pm_commands.specs.declared.failure.Failure.TheVariants.{Usage, BadShape, BadValue, Faulty, Fault, OtherLayout, FewerLanes, NotRead, TooLong, BadScript, NotWritten, NoMemory}
use Rattle.pm_commands.specs.declared.status.Status.TheVariants as status
use Rattle.pm_commands.proofs.Checking.{mended_fault}
use Rattle.pm_commands.proofs.LanesRun.{none_beyond, one_script}
use Rattle.pm_commands.proofs.OneCommand.{only_check, only_create, only_dump, only_exec, only_info, only_recover}

-- a failure is handed on as it is
pub passed : {T E : Type 0} (result : Result T E) (e : E) (Q : E → Type 0) → IsErrAnd result (λ y. y ≡ e) → Q e → IfErr result Q
passed (Ok v) e Q is holds = tt
passed (Err f) e Q is holds = subst Q (sym is) holds

-- a count that rose in the second of two calls rose in both
pub rose_since : (before old new : ℕ) → before ≤ old → Rose old new → Rose before new
rose_since before old new less (inl rose) = inl (omega arith)
rose_since before old new less (inr ends) = inr ends

pub read_cause_since : (name : List ℕ) (most : ℕ) (held read : Option Held) (before old new : ℕ) → read ≡ held → before ≤ old → (failure : Failure) → IsReadCause name most read old new failure
    → IsReadCause name most held before new failure
read_cause_since name most held read before old new kept less failure cause = go failure (subst (λ (shelf : Option Held). IsReadCause name most shelf old new failure) kept cause) where
  go : (f : Failure) → IsReadCause name most held old new f → IsReadCause name most held before new f
  go (NotRead failed) cause = (cause.0, ⊎_elim (λ rose. inl (rose_since before old new less rose)) (λ missing. inr missing) cause.1)
  go (TooLong failed) cause = cause
  go NoMemory cause = tt
  go failure cause = absurd cause

pub write_cause_since : (name : List ℕ) (held read : Option Held) (before old new : ℕ) → read ≡ held → before ≤ old → (failure : Failure) → IsWriteCause name read old new failure
    → IsWriteCause name held before new failure
write_cause_since name held read before old new kept less failure cause = go failure (subst (λ (shelf : Option Held). IsWriteCause name shelf old new failure) kept cause) where
  go : (f : Failure) → IsWriteCause name held old new f → IsWriteCause name held before new f
  go (NotWritten failed) cause = (cause.0, ⊎_elim (λ rose. inl (rose_since before old new less rose)) (λ there. inr there) cause.1)
  go NoMemory cause = tt
  go failure cause = absurd cause

-- a pool that was not read, or has a fault, is not shown
pub show_unread : (pool : List ℕ) (held : Option Held) (faults faults_after : ℕ) (failure : Failure) → IsReadCause pool limit held faults faults_after failure → IsShowCause pool held faults faults_after failure
show_unread pool held faults faults_after (Faulty found) cause = absurd cause
show_unread pool held faults faults_after failure cause = cause

pub show_faulty : (pool bytes : List ℕ) (held : Option Held) (faults faults_after : ℕ) (e : MeansFault) → IsWhole held pool limit bytes → IfImage e (BytesFail bytes) → IsShowCause pool held faults faults_after (failure_of e)
show_faulty pool bytes held faults faults_after (Image found) whole fails = record { bytes = bytes; whole = whole; fails = fails }
show_faulty pool bytes held faults faults_after Memory whole fails = tt

-- a pool that was not read is not checked
pub check_unread : (c : Check) (held after : Option Held) (faults faults_after : ℕ) (failure : Failure) → IsReadCause c.pool limit held faults faults_after failure → after ≡ held
    → IsCheckCause c held after faults faults_after failure
check_unread c held after faults faults_after (Fault found) cause kept = absurd cause
check_unread c held after faults faults_after (NotWritten name) cause kept = absurd cause
check_unread c held after faults faults_after NoMemory cause kept = tt
check_unread c held after faults faults_after failure cause kept = (cause, kept)

-- a mended one that was not written is not checked
pub check_unwritten : (c : Check) (held read after : Option Held) (before old new : ℕ) (found : ImageFault) (name mended : List ℕ) → read ≡ held → before ≤ old → IsRepair c held found name mended
    → (failure : Failure) → IsWriteCause name read old new failure → IsCheckCause c held after before new failure
check_unwritten c held read after before old new found name mended kept less repair failure cause = go failure (write_cause_since name held read before old new kept less failure cause) where
  go : (f : Failure) → IsWriteCause name held before new f → IsCheckCause c held after before new f
  go (NotWritten failed) cause =
      (found, mended, subst (λ (n : List ℕ). IsRepair c held found n mended) (sym cause.0) repair, (refl, subst (λ (n : List ℕ). Rose before new ⊎ IsThere held n) (sym cause.0) cause.1))
  go NoMemory cause = tt
  go failure cause = absurd cause

-- a run that was not made, or not written, is not done
pub exec_unmade : (e : Exec) (held after : Option Held) (faults faults_after : ℕ) (failure : Failure) → IsCauseBefore e held faults faults_after failure → after ≡ held
    → IsExecCause e held after faults faults_after failure
exec_unmade e held after faults faults_after (NotWritten name) (inl read) kept = absurd read
exec_unmade e held after faults faults_after (NotWritten name) (inr (inl read)) kept = absurd read.2
exec_unmade e held after faults faults_after (NotWritten name) (inr (inr run)) kept = absurd run.4
exec_unmade e held after faults faults_after NoMemory cause kept = tt
exec_unmade e held after faults faults_after failure cause kept = (cause, kept)

pub exec_unwritten : (e : Exec) (held read after : Option Held) (before old new : ℕ) (written text : List ℕ) → read ≡ held → before ≤ old → IsRunOf held e written text
    → (failure : Failure) → IsWriteCause e.out read old new failure → IsExecCause e held after before new failure
exec_unwritten e held read after before old new written text kept less run failure cause = go failure (write_cause_since e.out held read before old new kept less failure cause) where
  go : (f : Failure) → IsWriteCause e.out held before new f → IsExecCause e held after before new f
  go (NotWritten failed) cause = (written, text, run, cause)
  go NoMemory cause = tt
  go failure cause = absurd cause

-- a recovery that was not made, or not written, is not done
pub recover_unmade : (r : Recover) (held after : Option Held) (faults faults_after : ℕ) (failure : Failure) → IsShowCause r.pool held faults faults_after failure → after ≡ held
    → IsRecoverCause r held after faults faults_after failure
recover_unmade r held after faults faults_after (NotWritten name) cause kept = absurd cause
recover_unmade r held after faults faults_after NoMemory cause kept = tt
recover_unmade r held after faults faults_after failure cause kept = (cause, kept)

pub recover_unwritten : (r : Recover) (held read after : Option Held) (before old new : ℕ) (written text : List ℕ) → read ≡ held → before ≤ old → IsRecoveryOf held r written text
    → (failure : Failure) → IsWriteCause r.out read old new failure → IsRecoverCause r held after before new failure
recover_unwritten r held read after before old new written text kept less run failure cause = go failure (write_cause_since r.out held read before old new kept less failure cause) where
  go : (f : Failure) → IsWriteCause r.out held before new f → IsRecoverCause r held after before new f
  go (NotWritten failed) cause = (written, text, run, cause)
  go NoMemory cause = tt
  go failure cause = absurd cause

-- where the words ask for a command, why it failed is why that one did
module _ (words : List (List ℕ)) (held after : Option Held) (faults faults_after : ℕ) where
  pub create_failed : (c : Create) → IsCreate words c → (failure : Failure) → DidFail words held after faults faults_after failure → IsCreateCause c held after faults faults_after failure
  create_failed c is (Usage more) did = absurd (did.0.no_command.no_create c is)
  create_failed c is NoMemory did = tt
  create_failed c is failure did =
      only_create words c is did.0 did.1 (λ asked. IsCauseOf asked held after faults faults_after failure) (λ new. IsCreateCause new held after faults faults_after failure) (λ other cause. cause) did.2

  pub exec_failed : (e : Exec) → IsExec words e → (failure : Failure) → DidFail words held after faults faults_after failure → IsExecCause e held after faults faults_after failure
  exec_failed e is (Usage more) did = absurd (did.0.no_command.no_exec e is)
  exec_failed e is NoMemory did = tt
  exec_failed e is failure did =
      only_exec words e is did.0 did.1 (λ asked. IsCauseOf asked held after faults faults_after failure) (λ run. IsExecCause run held after faults faults_after failure) (λ other cause. cause) did.2

  pub recover_failed : (r : Recover) → IsRecover words r → (failure : Failure) → DidFail words held after faults faults_after failure → IsRecoverCause r held after faults faults_after failure
  recover_failed r is (Usage more) did = absurd (did.0.no_command.no_recover r is)
  recover_failed r is NoMemory did = tt
  recover_failed r is failure did =
      only_recover words r is did.0 did.1 (λ asked. IsCauseOf asked held after faults faults_after failure) (λ recovery. IsRecoverCause recovery held after faults faults_after failure) (λ other cause. cause) did.2

  pub check_failed : (c : Check) → IsCheck words c → (failure : Failure) → DidFail words held after faults faults_after failure → IsCheckCause c held after faults faults_after failure
  check_failed c is (Usage more) did = absurd (did.0.no_command.no_check c is)
  check_failed c is NoMemory did = tt
  check_failed c is failure did =
      only_check words c is did.0 did.1 (λ asked. IsCauseOf asked held after faults faults_after failure) (λ check. IsCheckCause check held after faults faults_after failure) (λ other cause. cause) did.2

  pub info_failed : (pool : List ℕ) → IsInfo words pool → (failure : Failure) → DidFail words held after faults faults_after failure → IsShowCause pool held faults faults_after failure
  info_failed pool is (Usage more) did = absurd (did.0.no_command.no_info pool is)
  info_failed pool is NoMemory did = tt
  info_failed pool is failure did =
      only_info words pool is did.0 did.1 (λ asked. IsCauseOf asked held after faults faults_after failure) (λ name. IsShowCause name held faults faults_after failure) (λ other cause. cause.0) did.2

  pub dump_failed : (pool : List ℕ) → IsDump words pool → (failure : Failure) → DidFail words held after faults faults_after failure → IsShowCause pool held faults faults_after failure
  dump_failed pool is (Usage more) did = absurd (did.0.no_command.no_dump pool is)
  dump_failed pool is NoMemory did = tt
  dump_failed pool is failure did =
      only_dump words pool is did.0 did.1 (λ asked. IsCauseOf asked held after faults faults_after failure) (λ name. IsShowCause name held faults faults_after failure) (λ other cause. cause.0) did.2

-- the bytes of a name
pub same_bytes : (held : Held) (name bytes other : List ℕ) → held name ≡ Some bytes → held name ≡ Some other → bytes ≡ other
same_bytes held name bytes other is also = let same : Some bytes ≡ Some other = sym is ∙ also in cc

pub not_both : (bytes : List ℕ) (pool : PoolView) (found : ImageFault) → BytesMean bytes pool → BytesFail bytes found → ⊥
not_both bytes pool found means (inl broken) = broken.0 means.0
not_both bytes pool found means (inr fails) = no_meaning_and_fault (words_of bytes) pool found means.1 fails.1

pub not_mended : (bytes : List ℕ) (pool : PoolView) (found : ImageFault) (mended : List ℕ) → BytesMean bytes pool → Mends bytes found mended → ⊥
not_mended bytes pool found mended means mends = no_meaning_and_fault (words_of bytes) pool found means.1 mends.is_mended.fault

length-words_of : (bytes : List ℕ) → length (words_of bytes) ≡ length bytes / 8
unfolding words_of
length-words_of bytes = length-map-range_with_len (word_at bytes) 0 (length bytes / 8)

pub within_limit : (bytes : List ℕ) (pool : PoolView) → BytesMean bytes pool → length bytes ≤ limit
within_limit bytes pool means =
    let is : IsMeaning (words_of bytes) pool = means.1 in
    let whole : length bytes % 8 ≡ 0 = means.0 in
    let size : 4096 + 8192 * is.lanes + 266240 * is.zones ≡ 8 * length (words_of bytes) = is.has_header.has_shape.size in
    let long : length (words_of bytes) ≡ length bytes / 8 = length-words_of bytes in
    let few_lanes : is.lanes ≤ 32 = is.has_header.has_shape.shape.lanes_to in
    let few_zones : is.zones ≤ 32 = is.has_header.has_shape.shape.zones_to in
    omega arith

not_there : (held : Held) (name : List ℕ) → held name ≡ None → IsThere (Some held) name → ⊥
not_there held name absent there = false≢true (subst (λ (found : Option (List ℕ)). IsSome found) absent there)

-- where nothing is wrong, a failure is want of memory
module _ (faults faults_after : ℕ) (calm : ¬ Rose faults faults_after) where
  pub read_fails : (held : Held) (name bytes : List ℕ) (most : ℕ) → held name ≡ Some bytes → length bytes ≤ most → (failure : Failure) → IsReadCause name most (Some held) faults faults_after failure
      → failure_status failure ≡ status.NoMemory
  read_fails held name bytes most there short (NotRead failed) cause =
      absurd (⊎_elim calm (λ (missing : IsMissing (Some held) name). let clash : Some bytes ≡ None = sym there ∙ missing in cc) cause.1)
  read_fails held name bytes most there short (TooLong failed) cause =
      let front = cause.1.1 in
      let one : bytes ≡ front.0 = same_bytes held name bytes front.0 there front.1 in
      let few : length front.0 ≤ most = subst (λ (bs : List ℕ). length bs ≤ most) one short in
      let long : most < length front.0 = front.2 in
      absurd (omega arith)
  read_fails held name bytes most there short NoMemory cause = refl
  read_fails held name bytes most there short failure cause = absurd cause

  pub write_fails : (held : Option Held) (name : List ℕ) → ¬ IsThere held name → (failure : Failure) → IsWriteCause name held faults faults_after failure → failure_status failure ≡ status.NoMemory
  write_fails held name new (NotWritten failed) cause = absurd (⊎_elim calm new cause.1)
  write_fails held name new NoMemory cause = refl
  write_fails held name new failure cause = absurd cause

  value_fails : (w : Wanted) → HasGoodValues w → (failure : Failure) → IsValueCause w failure → failure_status failure ≡ status.NoMemory
  value_fails w good BadShape cause = absurd (cause good.shape)
  value_fails w good (BadValue BadId) cause = absurd (let some : 1 ≤ w.id = good.values.id in let none : w.id ≡ 0 = cause.1 in omega arith)
  value_fails w good (BadValue BadLayout) cause = absurd (cause.2 good.values.layout)
  value_fails w good (BadValue BadSize) cause = absurd (let few : w.root ≤ 262080 = good.values.root in let many : 262080 < w.root = cause.3 in omega arith)
  value_fails w good NoMemory cause = refl
  value_fails w good failure cause = absurd cause

  pub create_fails : (c : Create) (held after : Option Held) → HasGoodValues c.wanted → ¬ IsThere held c.pool → (failure : Failure) → IsCreateCause c held after faults faults_after failure
      → failure_status failure ≡ status.NoMemory
  create_fails c held after good new (NotWritten name) cause = write_fails held c.pool new (NotWritten name) cause.1
  create_fails c held after good new NoMemory cause = refl
  create_fails c held after good new failure cause = value_fails c.wanted good failure cause.0

  pub show_fails : (held : Held) (name bytes : List ℕ) (pool : PoolView) → held name ≡ Some bytes → BytesMean bytes pool → (failure : Failure) → IsShowCause name (Some held) faults faults_after failure
      → failure_status failure ≡ status.NoMemory
  show_fails held name bytes pool there means (Faulty found) cause =
      absurd (not_both cause.bytes pool found (subst (λ (bs : List ℕ). BytesMean bs pool) (same_bytes held name bytes cause.bytes there cause.whole.0) means) cause.fails)
  show_fails held name bytes pool there means failure cause = read_fails held name bytes limit there (within_limit bytes pool means) failure cause

  pub check_fails : (c : Check) (held : Held) (after : Option Held) (bytes : List ℕ) (pool : PoolView) → held c.pool ≡ Some bytes → BytesMean bytes pool → (failure : Failure)
      → IsCheckCause c (Some held) after faults faults_after failure → failure_status failure ≡ status.NoMemory
  check_fails c held after bytes pool there means (Fault found) cause =
      absurd (not_both cause.0.bytes pool found (subst (λ (bs : List ℕ). BytesMean bs pool) (same_bytes held c.pool bytes cause.0.bytes there cause.0.whole.0) means) cause.0.fails)
  check_fails c held after bytes pool there means (NotWritten name) cause =
      absurd (not_mended cause.2.bytes pool cause.0 cause.1 (subst (λ (bs : List ℕ). BytesMean bs pool) (same_bytes held c.pool bytes cause.2.bytes there cause.2.whole.0) means) cause.2.mends)
  check_fails c held after bytes pool there means NoMemory cause = refl
  check_fails c held after bytes pool there means failure cause = read_fails held c.pool bytes limit there (within_limit bytes pool means) failure cause.0

  -- a fault that is not mended is told
  pub fault_fails : (c : Check) (held : Held) (after : Option Held) (found : ImageFault) → HasFaultLeft c (Some held) found → (failure : Failure)
      → IsCheckCause c (Some held) after faults faults_after failure → (failure_status failure ≡ status.Refused) ⊎ (failure_status failure ≡ status.NoMemory)
  fault_fails c held after found left (Fault other) cause = inl refl
  fault_fails c held after found left (NotWritten name) cause =
      let mends : Mends left.bytes cause.0 cause.1 = subst (λ (bs : List ℕ). Mends bs cause.0 cause.1) (same_bytes held c.pool cause.2.bytes left.bytes cause.2.whole.0 left.whole.0) cause.2.mends in
      absurd (left.unmended name.now cause.1 cause.2.asked (subst (λ (f : ImageFault). Mends left.bytes f cause.1) (mended_fault left.bytes cause.1 found cause.0 left.fails mends) mends))
  fault_fails c held after found left NoMemory cause = inr refl
  fault_fails c held after found left failure cause = inr (read_fails held c.pool left.bytes limit left.whole.0 left.whole.1 failure cause.0)

  -- one that can be mended is
  pub mend_fails : (c : Check) (held : Held) (after : Option Held) (found : ImageFault) (name mended : List ℕ) → IsRepair c (Some held) found name mended → ¬ IsThere (Some held) name → (failure : Failure)
      → IsCheckCause c (Some held) after faults faults_after failure → failure_status failure ≡ status.NoMemory
  mend_fails c held after found name mended repair new (Fault other) cause =
      let mends : Mends cause.0.bytes found mended = subst (λ (bs : List ℕ). Mends bs found mended) (same_bytes held c.pool repair.bytes cause.0.bytes repair.whole.0 cause.0.whole.0) repair.mends in
      absurd (cause.0.unmended name mended repair.asked (subst (λ (f : ImageFault). Mends cause.0.bytes f mended) (mended_fault cause.0.bytes mended other found cause.0.fails mends) mends))
  mend_fails c held after found name mended repair new (NotWritten other) cause =
      let same : Some name ≡ Some other.now = sym repair.asked ∙ cause.2.asked in
      let one : name ≡ other.now = cc in
      write_fails (Some held) other.now (subst (λ (n : List ℕ). ¬ IsThere (Some held) n) one new) (NotWritten other) cause.3
  mend_fails c held after found name mended repair new NoMemory cause = refl
  mend_fails c held after found name mended repair new failure cause = read_fails held c.pool repair.bytes limit repair.whole.0 repair.whole.1 failure cause.0

  other_layout : (source : List ℕ) (e : Exec) (pool : PoolView) (kept : List ℕ) → BytesMean source pool → pool.name ≡ e.layout → AreOfOtherLayout source e kept → ⊥
  other_layout source e pool kept means named one =
      let same : one.other.pool ≡ pool = one_meaning (words_of source) one.other.pool pool one.other.means means.1 in
      one.other.other (sym one.other.named ∙ ap (λ (p : PoolView). p.name) same ∙ named)

  fewer_lanes : (source text : List ℕ) (e : Exec) (pool : PoolView) (asked kept : ℕ) → BytesMean source pool → MayRunOn (lines text) pool.lanes → AreOfFewerLanes source text e asked kept → ⊥
  fewer_lanes source text e pool asked kept means (inl one) fewer = fewer.is_script.not_one one.0 one.1
  fewer_lanes source text e pool asked kept means (inr run) fewer =
      let other = fewer.fewer in
      let same : other.pool ≡ pool = one_meaning (words_of source) other.pool pool other.means means.1 in
      let script : fewer.script ≡ run.0 = one_script (lines text) fewer.script run.0 fewer.is_script.is_script run.1.is_script in
      let has : pool.lanes ≡ kept = ap (λ (p : PoolView). p.lanes) (sym same) ∙ other.of_lanes in
      let wanted : asked ≡ run.0.lanes = fewer.asked_for ∙ ap (λ (s : Script). s.lanes) script in
      let few : run.0.lanes ≤ pool.lanes = run.2 in
      let some : 1 ≤ run.0.lanes = some_lane (lines text) run.0 run.1.is_script in
      ⊎_elim (λ (none : asked ≡ 0). omega arith) (λ (more : kept < asked). omega arith) other.other

  -- no line of a script that runs is refused
  not_refused : (text : List ℕ) (lanes : ℕ) (bad : BadLine) → MayRunOn (lines text) lanes → IsRefusedLine (lines text) bad → ⊥
  not_refused text lanes bad (inl one) refused = refused.not_one one.0 one.1
  not_refused text lanes bad (inr run) refused = ⊎_elim
      (λ (is : IsBadLine (lines text) bad). no_script_and_bad_line (lines text) run.0 bad run.1.is_script is)
      (λ (beyond : (script : Script) × IsScript (lines text) script × (beyond_lanes script.lines ≡ Some bad.line) × (bad.why ≡ Word)).
      none_beyond run.0.lines bad.line run.1.runs (subst (λ (s : Script). beyond_lanes s.lines ≡ Some bad.line) (one_script (lines text) beyond.0 run.0 beyond.1 run.1.is_script) beyond.2))
      refused.is

  run_fails : (source text : List ℕ) (e : Exec) (pool : PoolView) → BytesMean source pool → pool.name ≡ e.layout → MayRunOn (lines text) pool.lanes → (failure : Failure)
      → IsRunFault source text e failure → failure_status failure ≡ status.NoMemory
  run_fails source text e pool means named runs (BadScript bad) cause = absurd (not_refused text pool.lanes bad runs cause)
  run_fails source text e pool means named runs (Faulty found) cause = absurd (not_both source pool found means cause.1)
  run_fails source text e pool means named runs (OtherLayout asked kept) cause = absurd (other_layout source e pool kept means named cause.2)
  run_fails source text e pool means named runs (FewerLanes asked kept) cause = absurd (fewer_lanes source text e pool asked kept means runs cause)
  run_fails source text e pool means named runs NoMemory cause = refl
  run_fails source text e pool means named runs failure cause = absurd cause

  before_fails : (e : Exec) (held : Held) → CanRun held e → (failure : Failure) → IsCauseBefore e (Some held) faults faults_after failure → failure_status failure ≡ status.NoMemory
  before_fails e held can failure (inl read) = read_fails held e.pool can.source limit can.pool_there (within_limit can.source can.pool can.means) failure read
  before_fails e held can failure (inr (inl read)) = read_fails held e.script can.script_text script_limit can.script_there can.short failure read.2
  before_fails e held can failure (inr (inr run)) =
      let source : run.0 ≡ can.source = same_bytes held e.pool run.0 can.source run.2.0 can.pool_there in
      let text : run.1 ≡ can.script_text = same_bytes held e.script run.1 can.script_text run.3.0 can.script_there in
      run_fails can.source can.script_text e can.pool can.means can.named can.runs failure
      (subst (λ (t : List ℕ). IsRunFault can.source t e failure) text (subst (λ (s : List ℕ). IsRunFault s run.1 e failure) source run.4))

  pub exec_fails : (e : Exec) (held : Held) (after : Option Held) → CanRun held e → (failure : Failure) → IsExecCause e (Some held) after faults faults_after failure → failure_status failure ≡ status.NoMemory
  exec_fails e held after can (NotWritten name) cause = write_fails (Some held) e.out (not_there held e.out can.absent) (NotWritten name) cause.3
  exec_fails e held after can NoMemory cause = refl
  exec_fails e held after can failure cause = before_fails e held can failure cause.0

  pub recover_fails : (r : Recover) (held : Held) (after : Option Held) → CanRecover held r → (failure : Failure) → IsRecoverCause r (Some held) after faults faults_after failure → failure_status failure ≡ status.NoMemory
  recover_fails r held after can (NotWritten name) cause = write_fails (Some held) r.out (not_there held r.out can.absent) (NotWritten name) cause.3
  recover_fails r held after can NoMemory cause = refl
  recover_fails r held after can failure cause = show_fails held r.pool can.source can.pool can.pool_there can.means failure cause.0
