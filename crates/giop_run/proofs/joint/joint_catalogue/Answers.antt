use Rattle.std.proofs.Common.{◌≡◌, ℕ, List, [], ◌∷◌, Result, Ok, Err, refl}
use Rattle.std.specs.Prelude.{◌≢◌, IfOk}
use Rattle.giop_sig.specs.Builtin.{builtin_table}
use Rattle.giop_sig.specs.Table.{Table}
use Rattle.giop_sig_files.specs.declared.places.SignatureText.{SignatureText}
use Rattle.giop_run.specs.Files.{KnownFiles, Declares}
use Rattle.giop_run.specs.Joint.{AreRead, joint_text, CataloguesOf}
use Rattle.giop_run.specs.declared.fault.ProgramError.{ProgramError}
use Rattle.giop_run.proofs.joint.joint_catalogue.Goals as goal

-- there are as many files as names
by_names : (held : KnownFiles) (names : List (List ℕ)) (files : List SignatureText)
    (r : Result Table ProgramError) → AreRead held names files
    → (files ≡ [] → IfOk r (λ C. C ≡ builtin_table))
    → (files ≢ [] → IfOk r (Declares 3 (joint_text files))) → IfOk r (CataloguesOf held names)
by_names held names files (Err fault) read none some = tt
by_names held [] [] (Ok C) read none some = none refl
by_names held [] (file ∷ files) (Ok C) read none some = let e = read.names_are in absurd cc
by_names held (name ∷ names) [] (Ok C) read none some = let e = read.names_are in absurd cc
by_names held (name ∷ names) (file ∷ files) (Ok C) read none some =
    (file ∷ files, read, some (λ e. absurd cc))

pub returns-clause-ok : goal.returns-clause-ok
returns-clause-ok g c =
    by_names _ _ _ c.catalogue_of_files.result c.in_ok-files.ensures.ok
    (rw c.as_slice.ensures.value at c.catalogue_of_files.ensures.builtin)
    (rw c.as_slice.ensures.value at c.catalogue_of_files.ensures.ok)
