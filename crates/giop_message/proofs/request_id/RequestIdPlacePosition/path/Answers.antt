use Rattle.std.proofs.Common.{◌++◌, ap, ◌∙◌}
use Rattle.std.specs.Prelude.{codes}
use Rattle.giop_print.specs.Paths.{PathText, name_segment}
use Rattle.giop_decode.specs.Spelling.{path_text}
use Rattle.giop_message.specs.RequestId.{request_id_path}
use Rattle.giop_message.proofs.request_id.RequestIdPlacePosition.path.Goals as goal

pub returns : goal.returns
unfolding path_text request_id_path
returns c =
    c.push_name.ensures.text ∙ ap (λ (path : PathText). path.text
    ++ name_segment (codes "request_id")) c.new-path.ensures
