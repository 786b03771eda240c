use Rattle.std.proofs.Common.{◌≡◌, ap, sym, arith, length}
use Rattle.std.specs.Option.{option_map}
use Rattle.std.proofs.lemmas.Bool.{ltb-false}
use Rattle.giop_sig.specs.Table.{interface_id}
use Rattle.giop_sig.proofs.InterfaceLaws.{none_of_key}
use Rattle.giop_sig.proofs.catalogue.Catalogue.has_keys.Goals as goal

pub returns-clause-none : goal.returns-clause-none
returns-clause-none c none key =
    let few = ltb-false 0 c.keys_len.result none in
    let zero : length c.self.inside.interfaces.keys ≡ 0 = omega (arith, c.keys_len.ensures, few) in
    ap (option_map interface_id) (sym (none_of_key c.args.self.now.interfaces key
    (rw (← c.self.view_is) zero)))
