use Rattle.solo_epoch.proofs.StayingBorneOut.{begun_borne_out, put_borne_out, told_borne_out}
use Rattle.solo_epoch.proofs.laws.a_call_stays_borne_out.Goals as goal

pub returns : goal.returns
returns c = record { begins = begun_borne_out; told = told_borne_out; puts = put_borne_out }
