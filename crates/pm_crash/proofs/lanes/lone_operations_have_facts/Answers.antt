use Rattle.pm_crash.proofs.SimOutside.{actions_are_facts, bare_outsides_are_facts, outsides_are_facts}
use Rattle.pm_crash.proofs.SimPublish.{publications_are_facts, refused_publications_are_facts}
use Rattle.pm_crash.proofs.SimReads.{lone_reads_are_facts}
use Rattle.pm_crash.proofs.lanes.lone_operations_have_facts.Goals as goal

pub returns-clause-leads : goal.returns-clause-leads
returns-clause-leads c = outsides_are_facts

pub returns-clause-bare : goal.returns-clause-bare
returns-clause-bare c = bare_outsides_are_facts

pub returns-clause-actions : goal.returns-clause-actions
returns-clause-actions c = actions_are_facts

pub returns-clause-publishes : goal.returns-clause-publishes
returns-clause-publishes c = publications_are_facts

pub returns-clause-refused : goal.returns-clause-refused
returns-clause-refused c = refused_publications_are_facts

pub returns-clause-reads : goal.returns-clause-reads
returns-clause-reads c = lone_reads_are_facts
