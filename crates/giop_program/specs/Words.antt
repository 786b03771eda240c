-- What the words of the command line ask for, with the names in them as texts (meaning).
use Rattle.std.specs.Prelude.{option_map}
use Rattle.giop_run.specs.Files.{Asked, latest_version}
use Rattle.giop_program.specs.declared.arguments.Arguments.{Arguments}

abbrev pub asked_of : (words : Arguments) → Asked
asked_of words =
    record {
      signatures = option_map (λ name. name.now) words.signatures;
      latest_version = latest_version words.version_3;
      requests = option_map (λ name. name.now) words.requests;
      resume = option_map (λ name. name.now) words.resume;
      save = option_map (λ name. name.now) words.save;
      most = words.most;
      stream = option_map (λ name. name.now) words.stream;
    }
