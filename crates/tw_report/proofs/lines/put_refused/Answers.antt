use Rattle.tw_report.proofs.lines.put_refused.Goals as goal

pub returns-in-TextLine : goal.returns-in-TextLine
returns-in-TextLine g c = rw c.in-TextLine.is c.put_line.ensures

pub returns-in-CommandOption : goal.returns-in-CommandOption
returns-in-CommandOption g c = rw c.in-CommandOption.is c.put_line-in-CommandOption.ensures
