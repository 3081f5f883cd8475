use Rattle.assess_command.proofs.OneLine.{Laws, one_line}
use Rattle.assess_command.proofs.laws.an_assessment_has_one_line.Goals as goal

pub returns : goal.returns
returns c =
    let laws : Laws = record {
      view = c.bytes_have_one_view.ensures.one;
      fault = c.bytes_have_one_view.ensures.fault;
      apart = c.bytes_have_one_view.ensures.apart;
      code = c.code_has_one_first_fault.ensures.one;
      pages = c.code_has_one_first_fault.ensures.apart;
    } in
    one_line laws
