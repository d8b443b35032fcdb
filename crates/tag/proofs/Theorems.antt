-- What is proved of calls and runs with XXTEA on blocks: what the rules' theorems say of every cipher.
use mathlib.Core.Path.{◌∙◌}
use Rattle.rules.proofs.Theorems.{theorems as rules}
use Rattle.xxtea.specs.Xxtea.{up}
use Rattle.xxtea.specs.Block.{E}
use Rattle.xxtea.proofs.Theorems.{theorems as cipher}
use Rattle.tag.specs.Theorems.{HostReadsByCalls, Theorems}

-- a block of 16 bytes gives 16, so that nothing is left to assume of the cipher
host_reads_by_calls : HostReadsByCalls
host_reads_by_calls s e k a n room rest rs h c =
    (rules.calls_follow E s e _ rs c).0 ∙ rules.host_reads E (cipher.block_cipher.sixteen up) s k a n room rest h

pub theorems : Theorems
theorems =
    record {
      refused_leaves = rules.refused_leaves E;
      refused_reads = rules.refused_reads E;
      calls_follow = rules.calls_follow E;
      host_reads_by_calls = host_reads_by_calls;
      calls_demand_3 = rules.calls_demand_3 E;
      runs_demand_3 = rules.runs_demand_3 E;
      runs_leave = rules.runs_leave E;
      runs_continue = rules.runs_continue E;
      called_is_call = rules.called_is_call E;
      run_called_is_run = rules.run_called_is_run E;
      nothing_lost = rules.nothing_lost;
      session_fits = rules.session_fits E;
    }
