-- Where nothing is wrong, a command is done, or there was no memory.
use Rattle.std.proofs.Common.{◌≡◌, ◌⊎◌, inl, inr, ⊎_elim, ℕ, List, Option, Some, refl, ◌∙◌, subst}
use Rattle.pm_objects.specs.declared.pool.PoolView.{PoolView}
use Rattle.pm_image.specs.declared.fault.ImageFault.{ImageFault}
use Rattle.pm_options.specs.Words.{Check, Create, Exec, IsCheck, IsCreate, IsDump, IsExec, IsInfo, IsRecover, Recover}
use Rattle.pm_shelf.specs.Outside.{Held, Rose, IsThere}
use Rattle.pm_commands.specs.Answers.{CameTo, Did, DidFail, Does, Printed}
use Rattle.pm_commands.specs.Checked.{HasFaultLeft, IsChecked, IsRepair}
use Rattle.pm_commands.specs.Created.{HasGoodValues, IsCreated}
use Rattle.pm_commands.specs.Executed.{CanRun, IsExecuted}
use Rattle.pm_commands.specs.Failures.{IsCheckCause}
use Rattle.pm_commands.specs.Lines.{failure_line, failure_status, fault_line}
use Rattle.pm_commands.specs.PoolFiles.{AreFactsIn, BytesMean, IsDumpOf, Mends}
use Rattle.pm_commands.specs.Recovered.{CanRecover, IsPoolRecovered}
use Rattle.pm_commands.specs.Saying.{IsAnswered, Said}
use Rattle.pm_commands.specs.declared.failure.Failure.{Failure}
use Rattle.pm_commands.specs.declared.failure.Failure.TheVariants.{Fault, NotRead, TooLong, NotWritten, NoMemory}
use Rattle.pm_commands.specs.declared.status.Status.{Status}
use Rattle.pm_commands.specs.declared.status.Status.TheVariants as status
use Rattle.pm_commands.proofs.Causes.{check_failed, check_fails, create_failed, create_fails, dump_failed, exec_failed, exec_fails, fault_fails, info_failed, mend_fails, not_both, recover_failed, recover_fails, same_bytes, show_fails}
use Rattle.pm_commands.proofs.Checking.{mended_fault}
use Rattle.pm_commands.proofs.OneCommand.{only_check, only_create, only_dump, only_exec, only_info, only_recover}
use Rattle.pm_commands.proofs.Printing.{printed_so}

-- a failure has another status than 0
never_done : (failure : Failure) → status.Done ≡ failure_status failure → ⊥
never_done NoMemory is = cc
never_done failure is = cc

module _ (words : List (List ℕ)) (held after : Option Held) (faults faults_after sink sink_after : ℕ) (told told_after : Option (List ℕ)) (result : Status)
    (answered : IsAnswered words held after faults faults_after sink sink_after told told_after result) where
  -- a sink that did not fail leaves the status as it is, or has no memory
  ends_so : ¬ Rose sink sink_after → (wanted : Status) → ((text : List ℕ) → Did words held after text → status.Done ≡ wanted)
      → ((failure : Failure) → DidFail words held after faults faults_after failure → (failure_status failure ≡ wanted) ⊎ (failure_status failure ≡ status.NoMemory))
      → (result ≡ wanted) ⊎ (result ≡ status.NoMemory)
  ends_so still wanted done fails = go answered.came_to answered.said where
    go : CameTo words held after faults faults_after answered.wanted answered.text → Said told told_after sink sink_after answered.text answered.wanted result
        → (result ≡ wanted) ⊎ (result ≡ status.NoMemory)
    go (inl came) (inl said) = inl (said.0 ∙ came.0 ∙ done answered.text came.1)
    go (inr came) (inl said) = ⊎_elim (λ is. inl (said.0 ∙ came.2 ∙ is)) (λ is. inr (said.0 ∙ came.2 ∙ is)) (fails came.0 came.1)
    go came (inr (inl failed)) = absurd (still failed.1)
    go came (inr (inr full)) = inr full.0

  pub create_complete : (c : Create) → IsCreate words c → HasGoodValues c.wanted → ¬ IsThere held c.pool → ¬ Rose faults faults_after → ¬ Rose sink sink_after
      → (result ≡ status.Done) ⊎ (result ≡ status.NoMemory)
  create_complete c is good new calm still =
      ends_so still status.Done (λ text did. refl)
      (λ failure did. inr (create_fails faults faults_after calm c held after good new failure (create_failed words held after faults faults_after c is failure did)))

  -- what was done, and printed
  done : result ≡ status.Done → Printed told told_after (Did words held after)
  done is = go (printed_so words held after faults faults_after sink sink_after told told_after result answered status.Done (λ clash. cc) (λ clash. cc) is) where
    did : (text : List ℕ) → CameTo words held after faults faults_after status.Done text → Did words held after text
    did text (inl came) = came.1
    did text (inr came) = absurd (never_done came.0 came.2)

    go : Printed told told_after (CameTo words held after faults faults_after status.Done) → Printed told told_after (Did words held after)
    go printed = (printed.0, did printed.0 printed.1, printed.2)

  pub create_done : (c : Create) → IsCreate words c → result ≡ status.Done → Printed told told_after (IsCreated c held after)
  create_done c is at = go (done at) where
    go : Printed told told_after (Did words held after) → Printed told told_after (IsCreated c held after)
    go did = (did.0, only_create words c is did.1.0 did.1.1 (λ asked. Does asked held after did.0) (λ new. IsCreated new held after did.0) (λ other does. does) did.1.2, did.2)

  pub exec_done : (e : Exec) → IsExec words e → result ≡ status.Done → Printed told told_after (IsExecuted e held after)
  exec_done e is at = go (done at) where
    go : Printed told told_after (Did words held after) → Printed told told_after (IsExecuted e held after)
    go did = (did.0, only_exec words e is did.1.0 did.1.1 (λ asked. Does asked held after did.0) (λ run. IsExecuted run held after did.0) (λ other does. does) did.1.2, did.2)

  pub recover_done : (r : Recover) → IsRecover words r → result ≡ status.Done → Printed told told_after (IsPoolRecovered r held after)
  recover_done r is at = go (done at) where
    go : Printed told told_after (Did words held after) → Printed told told_after (IsPoolRecovered r held after)
    go did = (did.0, only_recover words r is did.1.0 did.1.1 (λ asked. Does asked held after did.0) (λ recovery. IsPoolRecovered recovery held after did.0) (λ other does. does) did.1.2, did.2)

  pub check_done : (c : Check) → IsCheck words c → result ≡ status.Done → Printed told told_after (IsChecked c held after)
  check_done c is at = go (done at) where
    go : Printed told told_after (Did words held after) → Printed told told_after (IsChecked c held after)
    go did = (did.0, only_check words c is did.1.0 did.1.1 (λ asked. Does asked held after did.0) (λ check. IsChecked check held after did.0) (λ other does. does) did.1.2, did.2)

  pub info_done : (name : List ℕ) → IsInfo words name → result ≡ status.Done → Printed told told_after (AreFactsIn held name)
  info_done name is at = go (done at) where
    go : Printed told told_after (Did words held after) → Printed told told_after (AreFactsIn held name)
    go did = (did.0, only_info words name is did.1.0 did.1.1 (λ asked. Does asked held after did.0) (λ pool. AreFactsIn held pool did.0) (λ other does. does.0) did.1.2, did.2)

  pub dump_done : (name : List ℕ) → IsDump words name → result ≡ status.Done → Printed told told_after (IsDumpOf held name)
  dump_done name is at = go (done at) where
    go : Printed told told_after (Did words held after) → Printed told told_after (IsDumpOf held name)
    go did = (did.0, only_dump words name is did.1.0 did.1.1 (λ asked. Does asked held after did.0) (λ pool. IsDumpOf held pool did.0) (λ other does. does.0) did.1.2, did.2)

  -- what a check that was refused has printed
  pub check_refused : (c : Check) → IsCheck words c → result ≡ status.Refused
      → (after ≡ held) × Printed told told_after (λ text. (found : ImageFault) × HasFaultLeft c held found × (text ≡ fault_line found))
  check_refused c is refused = go (printed_so words held after faults faults_after sink sink_after told told_after result answered status.Refused (λ clash. cc) (λ clash. cc) refused) where
    left : (text : List ℕ) (failure : Failure) → IsCheckCause c held after faults faults_after failure → status.Refused ≡ failure_status failure → text ≡ failure_line failure
        → (after ≡ held) × ((found : ImageFault) × HasFaultLeft c held found × (text ≡ fault_line found))
    left text (Fault found) cause is line = (cause.1, (found, cause.0, line))
    left text (NotWritten name) cause is line = absurd cc
    left text (NotRead name) cause is line = absurd cc
    left text (TooLong name) cause is line = absurd cc
    left text NoMemory cause is line = absurd cc
    left text failure cause is line = absurd cause.0

    told_so : (text : List ℕ) → CameTo words held after faults faults_after status.Refused text → (after ≡ held) × ((found : ImageFault) × HasFaultLeft c held found × (text ≡ fault_line found))
    told_so text (inl came) = absurd (let clash : status.Refused ≡ status.Done = came.0 in cc)
    told_so text (inr came) = left text came.0 (check_failed words held after faults faults_after c is came.0 came.1) came.2 came.3

    go : Printed told told_after (CameTo words held after faults faults_after status.Refused)
        → (after ≡ held) × Printed told told_after (λ text. (found : ImageFault) × HasFaultLeft c held found × (text ≡ fault_line found))
    go printed = let so = told_so printed.0 printed.1 in (so.0, (printed.0, so.1, printed.2))

-- where the shelf tells what it holds
module _ (words : List (List ℕ)) (old after : Option Held) (faults faults_after sink sink_after : ℕ) (told told_after : Option (List ℕ)) (result : Status)
    (answered : IsAnswered words old after faults faults_after sink sink_after told told_after result) (held : Held) (tells : old ≡ Some held)
    (calm : ¬ Rose faults faults_after) (still : ¬ Rose sink sink_after) where
  answered_here : IsAnswered words (Some held) after faults faults_after sink sink_after told told_after result
  answered_here = subst (λ (o : Option Held). IsAnswered words o after faults faults_after sink sink_after told told_after result) tells answered

  pub exec_complete : (e : Exec) → IsExec words e → CanRun held e → (result ≡ status.Done) ⊎ (result ≡ status.NoMemory)
  exec_complete e is can =
      ends_so words (Some held) after faults faults_after sink sink_after told told_after result answered_here still status.Done (λ text did. refl)
      (λ failure did. inr (exec_fails faults faults_after calm e held after can failure (exec_failed words (Some held) after faults faults_after e is failure did)))

  pub recover_complete : (r : Recover) → IsRecover words r → CanRecover held r → (result ≡ status.Done) ⊎ (result ≡ status.NoMemory)
  recover_complete r is can =
      ends_so words (Some held) after faults faults_after sink sink_after told told_after result answered_here still status.Done (λ text did. refl)
      (λ failure did. inr (recover_fails faults faults_after calm r held after can failure (recover_failed words (Some held) after faults faults_after r is failure did)))

  pub check_complete : (c : Check) (bytes : List ℕ) (pool : PoolView) → IsCheck words c → held c.pool ≡ Some bytes → BytesMean bytes pool → (result ≡ status.Done) ⊎ (result ≡ status.NoMemory)
  check_complete c bytes pool is there means =
      ends_so words (Some held) after faults faults_after sink sink_after told told_after result answered_here still status.Done (λ text did. refl)
      (λ failure did. inr (check_fails faults faults_after calm c held after bytes pool there means failure (check_failed words (Some held) after faults faults_after c is failure did)))

  pub info_complete : (name bytes : List ℕ) (pool : PoolView) → IsInfo words name → held name ≡ Some bytes → BytesMean bytes pool → (result ≡ status.Done) ⊎ (result ≡ status.NoMemory)
  info_complete name bytes pool is there means =
      ends_so words (Some held) after faults faults_after sink sink_after told told_after result answered_here still status.Done (λ text did. refl)
      (λ failure did. inr (show_fails faults faults_after calm held name bytes pool there means failure (info_failed words (Some held) after faults faults_after name is failure did)))

  pub dump_complete : (name bytes : List ℕ) (pool : PoolView) → IsDump words name → held name ≡ Some bytes → BytesMean bytes pool → (result ≡ status.Done) ⊎ (result ≡ status.NoMemory)
  dump_complete name bytes pool is there means =
      ends_so words (Some held) after faults faults_after sink sink_after told told_after result answered_here still status.Done (λ text did. refl)
      (λ failure did. inr (show_fails faults faults_after calm held name bytes pool there means failure (dump_failed words (Some held) after faults faults_after name is failure did)))

  pub mend_complete : (c : Check) (found : ImageFault) (name mended : List ℕ) → IsCheck words c → IsRepair c (Some held) found name mended → ¬ IsThere (Some held) name
      → (result ≡ status.Done) ⊎ (result ≡ status.NoMemory)
  mend_complete c found name mended is repair new =
      ends_so words (Some held) after faults faults_after sink sink_after told told_after result answered_here still status.Done (λ text did. refl)
      (λ failure did. inr (mend_fails faults faults_after calm c held after found name mended repair new failure (check_failed words (Some held) after faults faults_after c is failure did)))

  -- a pool with a fault that is left is not checked
  not_checked : (c : Check) (found : ImageFault) (text : List ℕ) → HasFaultLeft c (Some held) found → IsChecked c (Some held) after text → ⊥
  not_checked c found text left (inl one) =
      not_both left.bytes one.pool found (subst (λ (bs : List ℕ). BytesMean bs one.pool) (same_bytes held c.pool one.bytes left.bytes one.whole.0 left.whole.0) one.means) left.fails
  not_checked c found text left (inr one) =
      let mends : Mends left.bytes one.found one.mended = subst (λ (bs : List ℕ). Mends bs one.found one.mended) (same_bytes held c.pool one.repair.bytes left.bytes one.repair.whole.0 left.whole.0) one.repair.mends in
      left.unmended one.name one.mended one.repair.asked (subst (λ (f : ImageFault). Mends left.bytes f one.mended) (mended_fault left.bytes one.mended found one.found left.fails mends) mends)

  pub fault_complete : (c : Check) (found : ImageFault) → IsCheck words c → HasFaultLeft c (Some held) found → (result ≡ status.Refused) ⊎ (result ≡ status.NoMemory)
  fault_complete c found is left =
      ends_so words (Some held) after faults faults_after sink sink_after told told_after result answered_here still status.Refused
      (λ text did. absurd (not_checked c found text left
      (only_check words c is did.0 did.1 (λ asked. Does asked (Some held) after text) (λ check. IsChecked check (Some held) after text) (λ other does. does) did.2)))
      (λ failure did. fault_fails faults faults_after calm c held after found left failure (check_failed words (Some held) after faults faults_after c is failure did))
