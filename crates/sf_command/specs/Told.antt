-- What is told of an audit, by the values of the code.
use Rattle.sf_command.specs.Common.{telling_data, Told}
use Rattle.sf_command.specs.Audits.{ToldData, asked_data}

-- what is told, by what the code keeps of it
abbrev pub told_data : Told → ToldData
told_data t = record {
  asked = asked_data t.asked.now;
  groups = t.groups.now;
  telling = telling_data t.telling.now;
  expected = t.expected.now;
  found = t.outcome.now;
}
