use Rattle.std.proofs.Common.{ℕ, List}
use Rattle.tcl_value.proofs.Removed.{distinct_back}
use Rattle.tcl_value.proofs.Dicted.{dict_of-write}
use Rattle.tcl_value.proofs.value_laws.written_dict_is_read.Goals as goal

pub returns : goal.returns
returns c = λ (ks vs : List (List ℕ)). λ h. λ d. dict_of-write _ (distinct_back ks vs h d)
