-- The octets of a message header: which of them is wrong, and how (GIOP Message Formats, GIOP
-- Message Header; meaning).
use Rattle.std.specs.Prelude.{ℕ, ◌-◌, Bool, true, false, ◌||◌, List, [], ◌∷◌, length, get_or, map, Option, Some, None, nat_lt, ◌==◌, if◌then◌else◌}
use Rattle.giop_checkpoint.specs.declared.fault.StreamFault.{StreamFault}
use Rattle.giop_checkpoint.specs.declared.fault.StreamFault.TheVariants.{Magic, Version, ByteOrder}

-- the fronts of a list, from the empty one to the whole
unfoldable pub fronts : {A : Type 0} (list : List A) → List (List A)
fronts [] = [] ∷ []
fronts (x ∷ xs) = [] ∷ map (λ front. x ∷ front) (fronts xs)

abbrev pub fault_unless : (is_allowed : Bool) (fault : StreamFault) → Option StreamFault
fault_unless true fault = None
fault_unless false fault = Some fault

-- The fault at the last octet of a header's front, if that octet is wrong. Right are `GIOP`, the
-- major version 1, a minor version up to 2, and in 1.0 a byte order of 0 or 1. The octets of the
-- size and the type may have any value.
unfoldable pub last_octet_fault : (header_front : List ℕ) → Option StreamFault
last_octet_fault front =
    let at = length front - 1 in
    let octet = get_or front at 0 in
    if length front == 0 then None
    else (if at == 0 then fault_unless (octet == 71) Magic
    else (if at == 1 then fault_unless (octet == 73) Magic
    else (if at == 2 then fault_unless (octet == 79) Magic
    else (if at == 3 then fault_unless (octet == 80) Magic
    else (if at == 4 then fault_unless (octet == 1) Version
    else (if at == 5 then fault_unless (nat_lt octet 3) Version
    else (if at == 6 then fault_unless (nat_lt octet 2 || nat_lt 0 (get_or front 5 0)) ByteOrder
    else None)))))))

-- a fault at the last one of `size` octets, or, if there is none, what was found after it
abbrev pub wrong_or : (fault_here : Option StreamFault) (octets_to_here : ℕ)
    (found_later : Option (ℕ × StreamFault)) → Option (ℕ × StreamFault)
wrong_or (Some fault) size later = Some (size, fault)
wrong_or None size later = later

-- the first one of these fronts that is wrong: how many octets it has, and the fault
unfoldable pub first_front_fault : (header_fronts : List (List ℕ)) → Option (ℕ × StreamFault)
first_front_fault [] = None
first_front_fault (front ∷ more) = wrong_or (last_octet_fault front) (length front)
    (first_front_fault more)

unfoldable pub first_wrong_octet : (header : List ℕ) → Option (ℕ × StreamFault)
first_wrong_octet header = first_front_fault (fronts header)
