use Rattle.pm_commands.specs.declared.status.Status.TheVariants as status
use Rattle.pm_commands.proofs.Completeness.{check_complete, check_done, check_refused, create_complete, create_done, dump_complete, dump_done, exec_complete, exec_done, fault_complete, info_complete, info_done, mend_complete, recover_complete, recover_done}
use Rattle.pm_commands.proofs.NewNames.{check_changes, create_changes, dump_keeps, exec_changes, info_keeps, none_keeps, recover_changes}
use Rattle.pm_commands.proofs.Printing.{printed_or_cut, printed_or_failed, printed_so}
use Rattle.pm_commands.proofs.command_line.top.Goals as goal

pub returns-clause-done : goal.returns-clause-done
returns-clause-done g c = printed_so _ _ _ _ _ _ _ _ _ _ c.answer.ensures.answered status.Done (λ clash. cc) (λ clash. cc)

pub returns-clause-refused : goal.returns-clause-refused
returns-clause-refused g c = printed_so _ _ _ _ _ _ _ _ _ _ c.answer.ensures.answered status.Refused (λ clash. cc) (λ clash. cc)

pub returns-clause-usage : goal.returns-clause-usage
returns-clause-usage g c = printed_so _ _ _ _ _ _ _ _ _ _ c.answer.ensures.answered status.Usage (λ clash. cc) (λ clash. cc)

pub returns-clause-read_fault : goal.returns-clause-read_fault
returns-clause-read_fault g c = printed_so _ _ _ _ _ _ _ _ _ _ c.answer.ensures.answered status.ReadFault (λ clash. cc) (λ clash. cc)

pub returns-clause-bad_script : goal.returns-clause-bad_script
returns-clause-bad_script g c = printed_so _ _ _ _ _ _ _ _ _ _ c.answer.ensures.answered status.BadScript (λ clash. cc) (λ clash. cc)

pub returns-clause-write_fault : goal.returns-clause-write_fault
returns-clause-write_fault g c = printed_or_failed _ _ _ _ _ _ _ _ _ _ c.answer.ensures.answered

pub returns-clause-no_memory : goal.returns-clause-no_memory
returns-clause-no_memory g c = printed_or_cut _ _ _ _ _ _ _ _ _ _ c.answer.ensures.answered

pub returns-clause-create_done : goal.returns-clause-create_done
returns-clause-create_done g c = create_done _ _ _ _ _ _ _ _ _ _ c.answer.ensures.answered

pub returns-clause-exec_done : goal.returns-clause-exec_done
returns-clause-exec_done g c = exec_done _ _ _ _ _ _ _ _ _ _ c.answer.ensures.answered

pub returns-clause-recover_done : goal.returns-clause-recover_done
returns-clause-recover_done g c = recover_done _ _ _ _ _ _ _ _ _ _ c.answer.ensures.answered

pub returns-clause-info_done : goal.returns-clause-info_done
returns-clause-info_done g c = info_done _ _ _ _ _ _ _ _ _ _ c.answer.ensures.answered

pub returns-clause-dump_done : goal.returns-clause-dump_done
returns-clause-dump_done g c = dump_done _ _ _ _ _ _ _ _ _ _ c.answer.ensures.answered

pub returns-clause-check_done : goal.returns-clause-check_done
returns-clause-check_done g c = check_done _ _ _ _ _ _ _ _ _ _ c.answer.ensures.answered

pub returns-clause-check_refused : goal.returns-clause-check_refused
returns-clause-check_refused g c = check_refused _ _ _ _ _ _ _ _ _ _ c.answer.ensures.answered

pub returns-clause-one_name : goal.returns-clause-one_name
returns-clause-one_name g c = create_changes _ _ _ c.answer.ensures.changed

pub returns-clause-exec_name : goal.returns-clause-exec_name
returns-clause-exec_name g c = exec_changes _ _ _ c.answer.ensures.changed

pub returns-clause-recover_name : goal.returns-clause-recover_name
returns-clause-recover_name g c = recover_changes _ _ _ c.answer.ensures.changed

pub returns-clause-check_name : goal.returns-clause-check_name
returns-clause-check_name g c = check_changes _ _ _ c.answer.ensures.changed

pub returns-clause-info_writes_none : goal.returns-clause-info_writes_none
returns-clause-info_writes_none g c = info_keeps _ _ _ c.answer.ensures.changed

pub returns-clause-dump_writes_none : goal.returns-clause-dump_writes_none
returns-clause-dump_writes_none g c = dump_keeps _ _ _ c.answer.ensures.changed

pub returns-clause-no_name : goal.returns-clause-no_name
returns-clause-no_name g c = none_keeps _ _ _ c.answer.ensures.changed

pub returns-clause-complete : goal.returns-clause-complete
returns-clause-complete g c = create_complete _ _ _ _ _ _ _ _ _ _ c.answer.ensures.answered

pub returns-clause-exec_complete : goal.returns-clause-exec_complete
returns-clause-exec_complete g c = λ e held is tells can calm still. exec_complete _ _ _ _ _ _ _ _ _ _ c.answer.ensures.answered held tells calm still e is can

pub returns-clause-recover_complete : goal.returns-clause-recover_complete
returns-clause-recover_complete g c = λ r held is tells can calm still. recover_complete _ _ _ _ _ _ _ _ _ _ c.answer.ensures.answered held tells calm still r is can

pub returns-clause-check_complete : goal.returns-clause-check_complete
returns-clause-check_complete g c = λ k bytes pool held is tells there means calm still. check_complete _ _ _ _ _ _ _ _ _ _ c.answer.ensures.answered held tells calm still k bytes pool is there means

pub returns-clause-info_complete : goal.returns-clause-info_complete
returns-clause-info_complete g c = λ name bytes pool held is tells there means calm still. info_complete _ _ _ _ _ _ _ _ _ _ c.answer.ensures.answered held tells calm still name bytes pool is there means

pub returns-clause-dump_complete : goal.returns-clause-dump_complete
returns-clause-dump_complete g c = λ name bytes pool held is tells there means calm still. dump_complete _ _ _ _ _ _ _ _ _ _ c.answer.ensures.answered held tells calm still name bytes pool is there means

pub returns-clause-mend_complete : goal.returns-clause-mend_complete
returns-clause-mend_complete g c = λ k found name mended held is tells repair new calm still. mend_complete _ _ _ _ _ _ _ _ _ _ c.answer.ensures.answered held tells calm still k found name mended is repair new

pub returns-clause-fault_complete : goal.returns-clause-fault_complete
returns-clause-fault_complete g c = λ k found held is tells left calm still. fault_complete _ _ _ _ _ _ _ _ _ _ c.answer.ensures.answered held tells calm still k found is left
