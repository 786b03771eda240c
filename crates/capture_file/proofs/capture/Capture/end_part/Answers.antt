use Rattle.std.proofs.Common.{◌≡◌, Some, sym, ap}
use Rattle.capture_file.specs.declared.fault.CaptureFault.{CaptureFault}
use Rattle.capture_file.proofs.capture.Capture.end_part.Goals as goal

same_fault : (f g : CaptureFault) → Some f ≡ Some g → f ≡ g
same_fault f g is = cc

pub invariant_of-self-in-Fails-clause-fault_place :
    goal.invariant_of-self-in-Fails-clause-fault_place
invariant_of-self-in-Fails-clause-fault_place c =
    λ x is. ap (λ (f : CaptureFault). f.place) (sym (same_fault _ x is))
