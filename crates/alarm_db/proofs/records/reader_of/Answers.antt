use Rattle.std.proofs.Common.{◌∙◌, inr}
use Rattle.csv.specs.Reading.{strip_bom}
use Rattle.alarm_db.proofs.Gathered.{none_read}
use Rattle.alarm_db.proofs.records.reader_of.Goals as goal

pub returns : goal.returns
returns c =
    let fr = c.from_reader.ensures in
    record {
      untrimmed = rw (c.flexible.ensures, c.has_headers.ensures) at fr.trim ∙ c.new.ensures.trim;
      ready = inr (inr (rw (c.flexible.ensures, c.has_headers.ensures) at fr.has_headers, fr.headers));
      configured = rw (c.flexible.ensures, c.has_headers.ensures) at fr.config ∙ c.new.ensures.config;
      left = strip_bom c.args.text.now;
      source = fr.source;
      reached = rw fr.state (none_read c.args.text.now);
    }
