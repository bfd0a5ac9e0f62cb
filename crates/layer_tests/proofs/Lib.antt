mod RootTasks
