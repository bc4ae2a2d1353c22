-- The command line of the program, in the words of `clap`.
use Rattle.std.specs.Prelude.{codes, [], ◌∷◌, Some, pos, true}
use Rattle.clap.specs.Words.{App, Rule, new_app, new_rule, with_rule, with_subcommand}
use Rattle.clap.specs.declared.builder.value_parser.ValueParser.TheVariants as parser
use Rattle.serve_arguments.specs.declared.line.TheConstants.{MOST_WORKERS}

-- PLANT, which has to be there
abbrev pub plant : Rule
plant = record (new_rule (codes "plant")) { required = true; value_names = 1 }

-- --workers N, from 1 to the greatest number, and 1 where it is left out
abbrev pub workers : Rule
workers = record (new_rule (codes "workers")) {
  long = Some (codes "workers");
  value_names = 1;
  defaults = codes "1" ∷ [];
  parser = Some (parser.Signed (pos 1) (pos MOST_WORKERS));
}

-- check PLANT
abbrev pub check : App
check = with_rule (new_app (codes "check")) plant

-- run PLANT --workers N
abbrev pub run : App
run = with_rule (with_rule (new_app (codes "run")) plant) workers

-- alarmd without its subcommands, one of which has to be there; it has a version, and its words begin after the program's name
abbrev pub bare : App
bare = record (new_app (codes "alarmd")) {
  top = record (new_app (codes "alarmd")).top { no_binary_name = true; subcommand_required = true; has_version = true };
}

-- the whole command line
abbrev pub alarmd : App
alarmd = with_subcommand (with_subcommand bare check.top) run.top
