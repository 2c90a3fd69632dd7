-- What is read whole, holds its constraints and has a plan is legal.
use Rattle.pst_built.specs.Laws.{WholeReadingsAreBuilt, WholeReadingsAreScenarios, WholeReadingsHaveSources}
use Rattle.pst_built.specs.ReadFitsLaws.{WholeReadingsFit}
use Rattle.pst_read_legal.specs.ReadShapeLaws.{WholeReadingsHaveShape}
use Rattle.pst_read_legal.specs.ReadNumbersLaws.{WholeReadingsAreNumbered}
use Rattle.pst_read_legal.specs.Laws.{WritersComeFromFirst, RunningReadingsAreSupplied, PlannedReadingsAreLegal}

pub are_supplied : WritersComeFromFirst → WholeReadingsHaveSources → WholeReadingsAreNumbered → RunningReadingsAreSupplied
are_supplied chain sources numbers m root seed level choices s e runs =
    let has = sources m root seed level choices s e in
    record {
      sources = has.sources;
      previous = has.previous;
      chains = chain m s has runs;
      bound = has.bound;
      inferred = has.inferred;
      numbered = numbers m root seed level choices s e;
    }

pub are_legal : WholeReadingsAreBuilt → WholeReadingsAreScenarios → WholeReadingsFit → WholeReadingsHaveShape → RunningReadingsAreSupplied → PlannedReadingsAreLegal
are_legal built scenarios fit shape supplied m root seed level choices s p sound concrete e holds plan = (
  record {
    reads = e;
    legal = record {
      scenario = scenarios m root seed level choices s sound concrete e;
      shape = shape m root seed level choices s sound concrete e;
      fits = fit m root seed level choices s sound concrete e;
      supplied = supplied m root seed level choices s e plan.runs;
      holds = holds;
      parallel = plan.parallel;
      alone = plan.alone;
      runs = plan.runs;
    };
  },
  (built m root seed level choices s e).1,
)
